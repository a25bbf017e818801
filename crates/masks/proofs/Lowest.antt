-- The lowest that passes a test: what shows that it is v, or that there is none. By induction on the bound. Assumes nothing.
use mathlib.Core.Path.{◌≡◌, refl, sym, ap, subst}
use mathlib.Core.Bool.{Bool, true, false}
use mathlib.Core.Logic.{◌⊎◌, inl, inr}
use Prim.Native.Nat.{ℕ, zero, suc, ◌≤◌, ◌<◌}
use native.Mathlib.Omega.{arith}
use lib.Dec.{T}
use Rattle.masks.specs.Sets.{pick, lowest}

-- none below v passes, and v does
pub lowest-is : (n : ℕ) (p : ℕ → Bool) (v : ℕ) → v < n → p v ≡ true → ((w : ℕ) → w < v → p w ≡ false) → lowest n p ≡ v
unfolding lowest
lowest-is zero p v l t f = absurd (omega arith)
lowest-is (suc n) p zero l t f = rw t
lowest-is (suc n) p (suc v) l t f = rw (f 0 (omega arith)) (ap suc (lowest-is n (λ w. p (suc w)) v (omega arith) t (λ w k. f (suc w) (omega arith))))

-- none below n passes
pub lowest-none : (n : ℕ) (p : ℕ → Bool) → ((w : ℕ) → w < n → p w ≡ false) → lowest n p ≡ n
unfolding lowest
lowest-none zero p f = refl
lowest-none (suc n) p f = rw (f 0 (omega arith)) (ap suc (lowest-none n (λ w. p (suc w)) (λ w k. f (suc w) (omega arith))))

-- what is below the lowest does not pass
pub lowest-under : (n : ℕ) (p : ℕ → Bool) (w : ℕ) → w < lowest n p → p w ≡ false
unfolding lowest
lowest-under zero p w l = absurd (omega arith)
lowest-under (suc n) p w l = go (p 0) refl w l (lowest-under n (λ v. p (suc v)))
  where
    go : (x : Bool) → p 0 ≡ x → (w : ℕ) → w < pick x 0 (suc (lowest n (λ v. p (suc v)))) → ((v : ℕ) → v < lowest n (λ v. p (suc v)) → p (suc v) ≡ false) → p w ≡ false
    go true e w l ih = absurd (omega arith)
    go false e zero l ih = e
    go false e (suc v) l ih = ih v (omega arith)

pub lowest-cases : (n : ℕ) (p : ℕ → Bool) → ((lowest n p < n) × T (p (lowest n p))) ⊎ ((lowest n p ≡ n) × ((w : ℕ) → w < n → T (p w) → ⊥))
unfolding lowest
lowest-cases zero p = inr (refl, λ w l t. omega arith)
lowest-cases (suc n) p = go (p 0) refl (lowest-cases n (λ v. p (suc v)))
  where
    k : ℕ
    k = lowest n (λ v. p (suc v))

    go : (x : Bool) → p 0 ≡ x → ((k < n) × T (p (suc k))) ⊎ ((k ≡ n) × ((w : ℕ) → w < n → T (p (suc w)) → ⊥))
        → ((pick x 0 (suc k) < suc n) × T (p (pick x 0 (suc k)))) ⊎ ((pick x 0 (suc k) ≡ suc n) × ((w : ℕ) → w < suc n → T (p w) → ⊥))
    go true e r = inl (omega arith, subst T (sym e) tt)
    go false e (inl r) = inl (omega arith, r.1)
    go false e (inr r) = inr (ap suc r.0, none)
      where
        none : (w : ℕ) → w < suc n → T (p w) → ⊥
        none zero l t = subst T e t
        none (suc w) l t = r.1 w (omega arith) t

-- the lowest that passes a test is no higher than any that does
pub lowest-le : (n : ℕ) (p : ℕ → Bool) (v : ℕ) → v < n → T (p v) → lowest n p ≤ v
unfolding lowest
lowest-le zero p v l t = absurd (omega arith)
lowest-le (suc n) p v l t = go (p 0) refl v l t (lowest-le n (λ w. p (suc w)))
  where
    go : (x : Bool) → p 0 ≡ x → (v : ℕ) → v < suc n → T (p v) → ((w : ℕ) → w < n → T (p (suc w)) → lowest n (λ u. p (suc u)) ≤ w)
        → pick x 0 (suc (lowest n (λ u. p (suc u)))) ≤ v
    go true e v l t ih = omega arith
    go false e zero l t ih = absurd (subst T e t)
    go false e (suc v) l t ih =
        let k : lowest n (λ u. p (suc u)) ≤ v = ih v (omega arith) t in
        omega arith
