-- How many members a set has: one more or one less with a member, and a set of one member. Assumes nothing.
use mathlib.Core.Path.{◌≡◌, sym, ap, ◌∙◌, subst}
use mathlib.Core.Logic.{◌≢◌, ◌⊎◌, inl, inr}
use mathlib.Core.Bool.{false}
use Prim.Native.Nat.{ℕ, zero, suc, ◌+◌, ◌/◌, ◌%◌, ◌^◌, ◌<◌}
use native.Mathlib.Omega.{arith}
use native.Mathlib.Nat.{pow-suc}
use native.Mathlib.Decide.{ℕ_discrete}
use borrow.Author.Tests.{eqb-false}
use lib.Count.{ones, ones_step}
use lib.Dec.{T}
use Rattle.masks.specs.Sets.{bit, cut, lowest}
use Rattle.masks.proofs.Tests.{T_true}
use Rattle.masks.proofs.Bits.{bit-low, bit-suc, no_member}
use Rattle.masks.proofs.PutCut.{cut-add, cut-same, cut-other}
use Rattle.masks.proofs.Lowest.{lowest-cases}

pub ones-add : (v m : ℕ) → bit m v ≡ false → ones (m + 2 ^ v) ≡ suc (ones m)
ones-add zero m e =
    let k : m % 2 ≢ 1 = eqb-false (m % 2) 1 (sym (bit-low m) ∙ e) in
    let h : (m + 1) / 2 ≡ m / 2 = omega arith in
    rw (ones_step (m + 1), ones_step m, h) (omega arith)
ones-add (suc v) m e =
    let h : (m + 2 ^ suc v) / 2 ≡ m / 2 + 2 ^ v = rw pow-suc (omega arith) in
    let o : (m + 2 ^ suc v) % 2 ≡ m % 2 = rw pow-suc (omega arith) in
    rw (ones_step (m + 2 ^ suc v), ones_step m, h, o, ones-add v (m / 2) (sym (bit-suc m v) ∙ e)) (omega arith)

pub ones_cut : (m v : ℕ) → T (bit m v) → ones m ≡ suc (ones (cut m v))
ones_cut m v t = ap ones (sym (cut-add m v (T_true (bit m v) t))) ∙ ones-add v (cut m v) (cut-same m v)

-- the lowest member of a set that has one member is all its members
pub record Sole (m u : ℕ) : Type 0 where
  pub member : T (bit m u)
  pub only : (a : ℕ) → T (bit m a) → a ≡ u

pub one-member : (n m : ℕ) → m < 2 ^ n → ones m ≡ 1 → (lowest n (bit m) < n) × Sole m (lowest n (bit m))
unfolding ones
one-member n m l e = go (lowest-cases n (bit m))
  where
    k : ℕ
    k = lowest n (bit m)

    go : ((k < n) × T (bit m k)) ⊎ ((k ≡ n) × ((w : ℕ) → w < n → T (bit m w) → ⊥)) → (k < n) × Sole m k
    go (inl r) = (r.0, record { member = r.1; only = λ a t. same a t (ℕ_discrete a k) })
      where
        same : (a : ℕ) → T (bit m a) → Dec (a ≡ k) → a ≡ k
        same a t (yes q) = q
        same a t (no q) = absurd (omega (arith, ones_cut m k r.1, ones_cut (cut m k) a (subst T (sym (cut-other m k a q)) t)))
    go (inr r) =
        let z : m ≡ 0 = no_member n m l r.1 in
        let f : ones m ≡ 0 = ap ones z in
        absurd (omega arith)
