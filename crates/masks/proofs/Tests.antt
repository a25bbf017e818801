-- Tests, as Bools and as facts: from a fact to its test and back. Assumes nothing.
use mathlib.Core.Path.{◌≡◌, refl, sym, ap, subst}
use mathlib.Core.Logic.{◌≢◌, ◌⊎◌, inl, inr, ◌↔◌}
use mathlib.Core.Bool.{Bool, true, false, not, ◌&&◌, ◌||◌}
use Prim.Native.Nat.{ℕ, zero, suc, ◌<◌}
use Prim.Native.Nat.compare
use Prim.Native.Nat.{compare, Ordering}
use native.Mathlib.Omega.{arith}
use lib.Dec.{T, eqb, eqb→eq, eqb_refl, T_not, not_T}

pub and_T : (a b : Bool) → T a → T b → T (a && b)
and_T true b p q = q
and_T false b p q = p

pub T_and : (a b : Bool) → T (a && b) → T a × T b
T_and true b p = (tt, p)
T_and false b p = absurd p

pub T-or : (a b : Bool) → T (a || b) → T a ⊎ T b
T-or true b p = inl tt
T-or false b p = inr p

pub or_l : (a b : Bool) → T a → T (a || b)
or_l true b p = tt
or_l false b p = absurd p

pub or_r : (a b : Bool) → T b → T (a || b)
or_r true b p = tt
or_r false b p = p

pub T_true : (b : Bool) → T b → b ≡ true
T_true true p = refl
T_true false p = absurd p

pub T-left : (b : Bool) → T (not b) → b ≡ false
T-left true p = absurd p
T-left false p = refl

pub ne-T : (a b : ℕ) → a ≢ b → T (not (eqb a b))
ne-T a b k = not_T (eqb a b) (λ t. k (eqb→eq a b t))

pub T-ne : (a b : ℕ) → T (not (eqb a b)) → a ≢ b
T-ne a b t e = T_not (eqb a b) t (subst (λ x. T (eqb a x)) e (eqb_refl a))

pub T? : (b : Bool) → Dec (T b)
T? true = yes tt
T? false = no (λ t. t)

pub T-no : (b : Bool) → (T b → ⊥) → T (not b)
T-no true f = f tt
T-no false f = tt

-- two tests that pass together are equal
pub iff-eq : (a b : Bool) → T a ↔ T b → a ≡ b
iff-eq true b h = sym (T_true b (h.0 tt))
iff-eq false true h = absurd (h.1 tt)
iff-eq false false h = refl

-- what each outcome says of the two numbers
abbrev pub Stand : Ordering → ℕ → ℕ → Type 0
Stand Ordering.lt v w = v < w
Stand Ordering.eq v w = v ≡ w
Stand Ordering.gt v w = w < v

pub stand : (v w : ℕ) → Stand (compare v w) v w
stand zero zero = refl
stand zero (suc w) = rw compare.zero-suc (omega arith)
stand (suc v) zero = rw compare.suc-zero (omega arith)
stand (suc v) (suc w) = rw compare.suc-suc (up (compare v w) (stand v w))
  where
    up : (o : Ordering) → Stand o v w → Stand o (suc v) (suc w)
    up Ordering.lt h = omega arith
    up Ordering.eq h = ap suc h
    up Ordering.gt h = omega arith

pub T_false : (b : Bool) → (T b → ⊥) → b ≡ false
T_false b f = T-left b (T-no b f)

pub false-T : (b : Bool) → b ≡ false → T b → ⊥
false-T b e t = subst T e t
