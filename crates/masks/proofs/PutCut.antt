-- A set with one member more or one less: what it holds, and how its number changes. Assumes nothing.
use mathlib.Core.Path.{◌≡◌, refl, sym, ap, ◌∙◌, subst}
use mathlib.Core.Logic.{◌≢◌, ◌⊎◌, inl, inr}
use mathlib.Core.Bool.{Bool, true, false}
use Prim.Native.Nat.{ℕ, ◌+◌, ◌-◌, ◌^◌, ◌≤◌, ◌<◌}
use native.Mathlib.Omega.{arith}
use native.Mathlib.Decide.{ℕ_discrete}
use lib.Dec.{T}
use Rattle.masks.specs.Sets.{bit, put, cut}
use Rattle.masks.proofs.Bits.{add_same, add-other, sub_same, bit_le, add-lt}

-- the number with the bit v set: the same, or 2 ^ v more
pub put-kept : (m v : ℕ) → bit m v ≡ true → put m v ≡ m
unfolding put
put-kept m v h = rw h

pub put-new : (m v : ℕ) → bit m v ≡ false → put m v ≡ m + 2 ^ v
unfolding put
put-new m v h = rw h

-- the number with the bit v cleared: the same, or 2 ^ v less
pub cut-gone : (m v : ℕ) → bit m v ≡ false → cut m v ≡ m
unfolding cut
cut-gone m v h = rw h

pub cut-add : (m v : ℕ) → bit m v ≡ true → cut m v + 2 ^ v ≡ m
unfolding cut
cut-add m v h = rw h (omega (arith, bit_le m v h))

pub put_same : (m v : ℕ) → bit (put m v) v ≡ true
put_same m v = go (bit m v) refl
  where
    go : (x : Bool) → bit m v ≡ x → bit (put m v) v ≡ true
    go true e = rw (put-kept m v e) e
    go false e = rw (put-new m v e) (add_same m v e)

pub put_other : (m v w : ℕ) → w ≢ v → bit (put m v) w ≡ bit m w
put_other m v w k = go (bit m v) refl
  where
    go : (x : Bool) → bit m v ≡ x → bit (put m v) w ≡ bit m w
    go true e = rw (put-kept m v e)
    go false e = rw (put-new m v e) (add-other m v w e k)

cut-is : (m v : ℕ) → bit m v ≡ true → cut m v ≡ m - 2 ^ v
unfolding cut
cut-is m v h = rw h

pub cut-same : (m v : ℕ) → bit (cut m v) v ≡ false
cut-same m v = go (bit m v) refl
  where
    go : (x : Bool) → bit m v ≡ x → bit (cut m v) v ≡ false
    go true e = rw (cut-is m v e) (sub_same m v e)
    go false e = rw (cut-gone m v e) e

-- setting a bit that was cleared gives the number back
pub put-cut : (m v : ℕ) → bit m v ≡ true → put (cut m v) v ≡ m
put-cut m v e = put-new (cut m v) v (cut-same m v) ∙ cut-add m v e

pub cut-other : (m v w : ℕ) → w ≢ v → bit (cut m v) w ≡ bit m w
cut-other m v w k = go (bit m v) refl
  where
    go : (x : Bool) → bit m v ≡ x → bit (cut m v) w ≡ bit m w
    go true e = sym (put_other (cut m v) v w k) ∙ ap (λ x. bit x w) (put-cut m v e)
    go false e = rw (cut-gone m v e)

-- bounds
pub cut-le : (m v : ℕ) → cut m v ≤ m
cut-le m v = go (bit m v) refl
  where
    go : (x : Bool) → bit m v ≡ x → cut m v ≤ m
    go true e = omega (arith, cut-add m v e)
    go false e = omega (arith, cut-gone m v e)

pub cut-lt : (n m v : ℕ) → m < 2 ^ n → cut m v < 2 ^ n
cut-lt n m v h = omega (arith, cut-le m v)

pub put-lt : (n m v : ℕ) → m < 2 ^ n → v < n → put m v < 2 ^ n
put-lt n m v h l = go (bit m v) refl
  where
    go : (x : Bool) → bit m v ≡ x → put m v < 2 ^ n
    go true e = rw (put-kept m v e) h
    go false e = rw (put-new m v e) (add-lt n m v h l e)

-- ---- members, as tests

-- the members of a set without v
pub cut_keeps : (m v x : ℕ) → x ≢ v → T (bit m x) → T (bit (cut m v) x)
cut_keeps m v x k t = subst T (sym (cut-other m v x k)) t

pub cut-from : (m v x : ℕ) → T (bit (cut m v) x) → (x ≢ v) × T (bit m x)
cut-from m v x t = (k, subst T (cut-other m v x k) t)
  where
    k : x ≢ v
    k e = subst T (ap (bit (cut m v)) e ∙ cut-same m v) t

pub in-put : (m v : ℕ) → T (bit (put m v) v)
in-put m v = subst T (sym (put_same m v)) tt

pub in-more : (m v x : ℕ) → T (bit m x) → T (bit (put m v) x)
in-more m v x h = go (ℕ_discrete x v)
  where
    go : Dec (x ≡ v) → T (bit (put m v) x)
    go (yes e) = subst (λ z. T (bit (put m v) z)) (sym e) (in-put m v)
    go (no k) = subst T (sym (put_other m v x k)) h

pub in-less : (m v x : ℕ) → T (bit (put m v) x) → (x ≡ v) ⊎ T (bit m x)
in-less m v x h = go (ℕ_discrete x v)
  where
    go : Dec (x ≡ v) → (x ≡ v) ⊎ T (bit m x)
    go (yes e) = inl e
    go (no k) = inr (subst T (put_other m v x k) h)
