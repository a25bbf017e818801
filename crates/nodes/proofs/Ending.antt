-- Joins that need no steps: with a constant, of a code with itself, and those that the memo room has. Assumes nothing.
use mathlib.Core.Path.{◌≡◌}
use mathlib.Core.Bool.{Bool, true, false}
use mathlib.Core.List.{List}
use Prim.Native.Nat.{ℕ}
use Rattle.masks.specs.Sets.{pick}
use Rattle.trees.specs.Tree.{Tree, join_t}
use Rattle.nodes.specs.Codes.{Stands, is_off, is_on, Table}
use Rattle.nodes.proofs.Standing.{stands_one, stands_good}
use Rattle.trees.proofs.Branches.{unit_t, zero_t, join-left, join-right, join-self}

-- ---- constants

unit-stands : (ws : List ℕ) (or : Bool) (a : ℕ) → a ≡ pick or 0 1 → Stands ws a (unit_t or)
unit-stands ws true a e = is_off e
unit-stands ws false a e = is_on e

zero-stands : (ws : List ℕ) (or : Bool) (a : ℕ) → a ≡ pick or 1 0 → Stands ws a (zero_t or)
zero-stands ws true a e = is_on e
zero-stands ws false a e = is_off e

module _ (or : Bool) (a b : ℕ) (ws : List ℕ) (s t : Tree) (T : Table ws) (sa : Stands ws a s) (sb : Stands ws b t) where
  pub end-unit-l : a ≡ pick or 0 1 → Stands ws b (join_t or s t)
  end-unit-l e = rw (stands_one sa (unit-stands ws or a e), (join-left or t).0) sb

  pub end-unit-r : b ≡ pick or 0 1 → Stands ws a (join_t or s t)
  end-unit-r e = rw (stands_one sb (unit-stands ws or b e), (join-right or s).0) sa

  pub end-zero-l : a ≡ pick or 1 0 → Stands ws a (join_t or s t)
  end-zero-l e =
      let z : Stands ws a (zero_t or) = zero-stands ws or a e in
      rw (stands_one sa z, (join-left or t).1) z

  pub end-zero-r : b ≡ pick or 1 0 → Stands ws b (join_t or s t)
  end-zero-r e =
      let z : Stands ws b (zero_t or) = zero-stands ws or b e in
      rw (stands_one sb z, (join-right or s).1) z

  pub end_same : a ≡ b → Stands ws a (join_t or s t)
  end_same e =
      let k : t ≡ s = stands_one sb (rw e at sa) in
      rw (k, join-self or s 0 (stands_good T sa)) sa
