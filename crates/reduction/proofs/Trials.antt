-- The one neighbour on a side: the lowest member of a set that has one. Assumes nothing.
use Rattle.std.proofs.Common.{◌≡◌, ℕ, ◌<◌, ◌^◌, ◌∙◌, subst, Bool, Option, Some}
use Rattle.std.specs.Int.Count.{ones}
use borrow.Author.Tests.{eq-eqb}
use Rattle.masks.specs.Sets.{bit, cut, lowest}
use Rattle.masks.specs.Walk.{IsLowestOf, IsLowestIn}
use Rattle.masks.specs.declared.Vertex.{Vertex}
use Rattle.masks.proofs.Counts.{one-member}
use Rattle.reduction.specs.Rules.{beats}
use Rattle.reduction.specs.Work.{one_cheaper}

pub one_found : (n m v t : ℕ) → m < 2 ^ n → ones m ≡ 1 → IsLowestOf m v t → v ≡ lowest n (bit m)
one_found n m v t l e h = (one-member n m l e).1.only v h.member

pub one-unwrapped : (n m : ℕ) → m < 2 ^ n → ones m ≡ 1 → (r : Option Vertex) (u : Vertex) → IsLowestIn m r → r ≡ Some u → u.0 ≡ lowest n (bit m)
one-unwrapped n m l e r u h q =
    let k : IsLowestOf m u.0 (cut m u.0) = subst (IsLowestIn m) q h in
    one_found n m u.0 (cut m u.0) l e k

-- the test of rules 3 and 4, made on it
pub is_one : (c : ℕ → ℕ) (n m v u : ℕ) (x : Bool) → ones m ≡ 1 → u ≡ lowest n (bit m) → x ≡ beats c u v → x ≡ one_cheaper c n m v
is_one c n m v u x e f h = h ∙ rw (f, eq-eqb (ones m) 1 e)
