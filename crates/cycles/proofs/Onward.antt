-- A walk over the members of a set, lowest first: what is left of the set are its members from some place on, and what a turn passes over is no member.
-- Assumes nothing.
use mathlib.Core.Path.{◌≡◌, subst, sym}
use mathlib.Core.Logic.{◌≢◌, ◌↔◌}
use Prim.Native.Nat.{ℕ, suc, ◌≤◌, ◌<◌}
use native.Mathlib.Omega.{arith}
use native.Mathlib.Decide.{dec_lt}
use lib.Dec.{T}
use Rattle.masks.specs.Sets.{bit}
use Rattle.masks.specs.Walk.{IsLowestOf}
use Rattle.masks.proofs.Bits.{zero-member}
use Rattle.masks.proofs.PutCut.{cut-from, cut_keeps}

-- s has the members of S from k on
pub record From (S k s : ℕ) : Type 0 where
  pub bounded : k ≤ 64
  pub left : (w : ℕ) → T (bit s w) ↔ ((k ≤ w) × T (bit S w))

pub from-all : {S s : ℕ} → s ≡ S → From S 0 s
from-all {S} {s} e = record { bounded = omega arith; left = λ w. ((λ t. (omega arith, subst (λ m. T (bit m w)) e t)), λ p. subst (λ m. T (bit m w)) (sym e) p.1) }

-- where nothing is left there are no more members
pub from-none : {S k s : ℕ} → s ≡ 0 → From S k s → (w : ℕ) → k ≤ w → T (bit S w) → ⊥
from-none {S} {k} {s} e f w l t = zero-member s w e ((f.left w).1 (l, t))

-- a turn takes u, and t is left
module _ {S k s u t : ℕ} (f : From S k s) (taken : IsLowestOf s u t) where
  pub from-member : (k ≤ u) × T (bit S u)
  from-member = (f.left u).0 taken.member

  pub from-passed : (w : ℕ) → k ≤ w → w < u → T (bit S w) → ⊥
  from-passed w l j i = taken.lowest w j ((f.left w).1 (l, i))

  pub from-next : From S (suc u) t
  from-next = record { bounded = omega (arith, taken.inner); left = λ w. (forth w, λ p. back w p.0 p.1) }
    where
      forth : (w : ℕ) → T (bit t w) → (suc u ≤ w) × T (bit S w)
      forth w i = go (dec_lt w u)
        where
          p : (w ≢ u) × T (bit s w)
          p = cut-from s u w (subst (λ m. T (bit m w)) taken.rest i)

          go : Dec (w < u) → (suc u ≤ w) × T (bit S w)
          go (yes j) = absurd (taken.lowest w j p.1)
          go (no j) =
              let j' : ¬ (w < u) = j in
              let k' : w ≢ u = p.0 in
              (omega arith, ((f.left w).0 p.1).1)

      back : (w : ℕ) → suc u ≤ w → T (bit S w) → T (bit t w)
      back w l i =
          let m = from-member.0 in
          subst (λ x. T (bit x w)) (sym taken.rest) (cut_keeps s u w (omega arith) ((f.left w).1 (omega (arith, m), i)))
