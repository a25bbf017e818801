-- The weight of a set: it goes by the members alone, and one member more or less changes it by that member's. Assumes nothing.
use mathlib.Core.Path.{◌≡◌, refl, sym, ap, ◌∙◌}
use mathlib.Core.Logic.{◌≢◌, ◌↔◌}
use mathlib.Core.Bool.{Bool, true, false, ◌&&◌, ◌||◌}
use Prim.Native.Nat.{ℕ, zero, suc, ◌+◌, ◌*◌, ◌^◌, ◌≤◌, ◌<◌}
use native.Mathlib.Omega.{arith}
use native.Mathlib.Numerals.{add-one}
use native.Mathlib.Decide.{ℕ_discrete}
use lib.Bits.{bit_and, bit_or, or_disjoint, and_lt, and_le_l}
use lib.Dec.{T}
use lib.Pow.{pow_pos}
use Rattle.masks.specs.Sets.{bit, pick, put, cut, weight}
use Rattle.masks.proofs.Tests.{T_true, T_false}
use Rattle.masks.proofs.Bits.{bit-ext, bit-or, bit-and, bit-zero, same-members}
use Rattle.masks.proofs.PutCut.{put_same, put_other, put-cut, cut-same}

pub weight-ext : (c : ℕ → ℕ) (n a b : ℕ) → ((v : ℕ) → v < n → bit a v ≡ bit b v) → weight c n a ≡ weight c n b
unfolding weight
weight-ext c zero a b h = refl
weight-ext c (suc n) a b h = rw (weight-ext c n a b (λ v l. h v (omega arith)), h n (omega arith))

-- a set bit adds its cost
pub weight-new : (c : ℕ → ℕ) (n m v : ℕ) → v < n → bit m v ≡ false → weight c n (put m v) ≡ weight c n m + c v
unfolding weight
weight-new c zero m v l h = absurd (omega arith)
weight-new c (suc n) m v l h = go (ℕ_discrete n v) (λ l'. weight-new c n m v l' h)
  where
    go : Dec (n ≡ v) → (v < n → weight c n (put m v) ≡ weight c n m + c v) → weight c (suc n) (put m v) ≡ weight c (suc n) m + c v
    go (yes e) ih =
        let same : weight c v (put m v) ≡ weight c v m = weight-ext c v (put m v) m (λ w j. put_other m v w (omega arith)) in
        rw (e, same, put_same m v, h) (omega arith)
    go (no k) ih =
        let ne : n ≢ v = k in
        rw (ih (omega arith), put_other m v n k) (omega arith)

-- a cleared bit takes its cost away
pub weight-gone : (c : ℕ → ℕ) (n m v : ℕ) → v < n → bit m v ≡ true → weight c n (cut m v) + c v ≡ weight c n m
weight-gone c n m v l h = sym (weight-new c n (cut m v) v l (cut-same m v)) ∙ ap (weight c n) (put-cut m v h)

pub weight-none : (c : ℕ → ℕ) (n : ℕ) → weight c n 0 ≡ 0
unfolding weight
weight-none c zero = refl
weight-none c (suc n) = rw (weight-none c n, bit-zero n)

-- ---- sets that are apart, and a set inside another

module _ (A B : ℕ) (apart : (v : ℕ) → T (bit A v) → T (bit B v) → ⊥) where
  pub apart-add : (n : ℕ) → A < 2 ^ n → B < 2 ^ n → bit_or A B ≡ A + B
  apart-add n la lb =
      or_disjoint A B
      (bit-ext n (bit_and A B) 0 (and_lt n A B la lb) (pow_pos n) (λ v l. bit-and A B v ∙ go (bit A v) (bit B v) (apart v) ∙ sym (bit-zero v)))
    where
      go : (x y : Bool) → (T x → T y → ⊥) → (x && y) ≡ false
      go true true h = absurd (h tt tt)
      go true false h = refl
      go false y h = refl

  pub apart-weight : (c : ℕ → ℕ) (n : ℕ) → weight c n (bit_or A B) ≡ weight c n A + weight c n B
  unfolding weight
  apart-weight c zero = refl
  apart-weight c (suc n) = rw (apart-weight c n, bit-or A B n) (go (bit A n) (bit B n) (apart n))
    where
      go : (x y : Bool) → (T x → T y → ⊥)
          → weight c n A + weight c n B + pick (x || y) (c n) 0 ≡ weight c n A + pick x (c n) 0 + (weight c n B + pick y (c n) 0)
      go true true h = absurd (h tt tt)
      go true false h = omega arith
      go false true h = omega arith
      go false false h = omega arith

pub within-le : (C S : ℕ) → ((v : ℕ) → T (bit S v) → T (bit C v)) → S ≤ C
within-le C S h = rw (sym (same-members (bit_and C S) S same)) (and_le_l C S)
  where
    go : (x y : Bool) → (T y → T x) → T (x && y) ↔ T y
    go true y h = ((λ t. t), λ t. t)
    go false y h = ((λ t. absurd t), h)

    same : (v : ℕ) → T (bit (bit_and C S) v) ↔ T (bit S v)
    same v = rw (bit-and C S v) (go (bit C v) (bit S v) (h v))

pub within-weight : (c : ℕ → ℕ) (n C S : ℕ) → ((v : ℕ) → T (bit S v) → T (bit C v)) → weight c n S ≤ weight c n C
unfolding weight
within-weight c zero C S h = omega arith
within-weight c (suc n) C S h = go (bit C n) (bit S n) (h n) (within-weight c n C S h)
  where
    go : (x y : Bool) → (T y → T x) → weight c n S ≤ weight c n C → weight c n S + pick y (c n) 0 ≤ weight c n C + pick x (c n) 0
    go true true h l = omega arith
    go true false h l = omega arith
    go false true h l = absurd (h tt)
    go false false h l = omega arith

-- how many of the first n are in
pub count-le : (n m : ℕ) → weight (λ v. 1) n m ≤ n
unfolding weight
count-le zero m = omega arith
count-le (suc n) m = go (bit m n) (count-le n m)
  where
    go : (x : Bool) → weight (λ v. 1) n m ≤ n → weight (λ v. 1) n m + pick x 1 0 ≤ suc n
    go true h = omega arith
    go false h = omega arith

-- ---- the cost of the members below a position

module _ (c : ℕ → ℕ) (S : ℕ) where
  pub weight-member : (v : ℕ) → T (bit S v) → weight c (v + 1) S ≡ weight c v S + c v
  unfolding weight
  weight-member v t = rw (add-one v, T_true (bit S v) t)

  -- over positions that hold no member
  pub weight-skip : (a b : ℕ) → a ≤ b → ((u : ℕ) → a ≤ u → u < b → T (bit S u) → ⊥) → weight c b S ≡ weight c a S
  unfolding weight
  weight-skip a zero l h =
      let e : 0 ≡ a = omega arith in
      ap (λ x. weight c x S) e
  weight-skip a (suc b) l h = go (ℕ_discrete a (suc b)) (λ k. weight-skip a b k (λ u i j. h u i (omega arith)))
    where
      go : Dec (a ≡ suc b) → (a ≤ b → weight c b S ≡ weight c a S) → weight c (suc b) S ≡ weight c a S
      go (yes e) ih = ap (λ x. weight c x S) (sym e)
      go (no k) ih =
          let k' : a ≢ suc b = k in
          let z : bit S b ≡ false = T_false (bit S b) (h b (omega arith) (omega arith)) in
          rw z (omega (arith, ih (omega arith)))

  pub weight-most : (b : ℕ) → ((v : ℕ) → c v ≤ b) → (n : ℕ) → weight c n S ≤ n * b
  unfolding weight
  weight-most b h zero = omega arith
  weight-most b h (suc n) = go (bit S n) (weight-most b h n)
    where
      go : (x : Bool) → weight c n S ≤ n * b → weight c n S + pick x (c n) 0 ≤ suc n * b
      go true l = omega (arith, h n)
      go false l = omega arith
