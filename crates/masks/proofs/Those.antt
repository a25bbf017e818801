-- The set of those below n that pass a test: its members. Assumes nothing.
use mathlib.Core.Path.{◌≡◌, refl, sym, ap, ◌∙◌, subst}
use mathlib.Core.Logic.{◌⊎◌, inl, inr, ◌↔◌}
use mathlib.Core.Bool.{Bool, true, false, ◌&&◌}
use Prim.Native.Nat.{ℕ, zero, suc, ◌+◌, ◌*◌, ◌^◌, ◌≤◌, ◌<◌}
use native.Mathlib.Omega.{arith}
use native.Mathlib.Nat.{pow-suc}
use native.Mathlib.Decide.{ℕ_discrete, dec_lt}
use lib.Dec.{T, leb, leb→le, le→leb}
use Rattle.masks.specs.Sets.{bit, pick, those, lowest}
use Rattle.masks.proofs.Tests.{and_T, T_and}
use Rattle.masks.proofs.Bits.{bit_high, bit-zero, add_same, add-other, number_lt, same-members, bit-lt}
use Rattle.masks.proofs.Lowest.{lowest-cases}

pub those-lt : (n : ℕ) (p : ℕ → Bool) → those n p < 2 ^ n
unfolding those
those-lt zero p = omega arith
those-lt (suc n) p = rw pow-suc (go (p n) (those-lt n p))
  where
    go : (x : Bool) → those n p < 2 ^ n → those n p + pick x (2 ^ n) 0 < 2 ^ n * 2
    go true h = omega arith
    go false h = omega arith

-- the others are out
pub those-out : (n : ℕ) (p : ℕ → Bool) (v : ℕ) → n ≤ v → bit (those n p) v ≡ false
those-out n p v l = bit_high n (those n p) v (those-lt n p) l

pub those-in : (n : ℕ) (p : ℕ → Bool) (v : ℕ) → v < n → bit (those n p) v ≡ p v
unfolding those
those-in zero p v l = absurd (omega arith)
those-in (suc n) p v l = go (p n) refl (ℕ_discrete v n) (those-in n p v)
  where
    clear : bit (those n p) n ≡ false
    clear = those-out n p n (omega arith)

    go : (x : Bool) → p n ≡ x → Dec (v ≡ n) → (v < n → bit (those n p) v ≡ p v) → bit (those n p + pick (p n) (2 ^ n) 0) v ≡ p v
    go true e (yes q) ih = rw (q, e) (add_same (those n p) n clear)
    go true e (no k) ih = rw e (add-other (those n p) n v clear k ∙ ih (omega (arith, k)))
    go false e (yes q) ih = rw (q, e) (ap (λ x. bit x n) (omega arith) ∙ clear)
    go false e (no k) ih = rw e (ap (λ x. bit x v) (omega arith) ∙ ih (omega (arith, k)))

pub those-iff : (n : ℕ) (p : ℕ → Bool) (v : ℕ) → T (bit (those n p) v) ↔ ((v < n) × T (p v))
those-iff n p v = (λ t. forth t (dec_lt v n), λ h. subst T (sym (those-in n p v h.0)) h.1)
  where
    forth : T (bit (those n p) v) → Dec (v < n) → (v < n) × T (p v)
    forth t (yes l) = (l, subst T (those-in n p v l) t)
    forth t (no k) =
        let k' : ¬ (v < n) = k in
        absurd (subst T (those-out n p v (omega arith)) t)

pub those-none : (n : ℕ) (p : ℕ → Bool) → (those n p ≡ 0) ↔ ((v : ℕ) → v < n → T (p v) → ⊥)
those-none n p = (
  λ e v l t. subst T (ap (λ m. bit m v) e ∙ bit-zero v) ((those-iff n p v).1 (l, t)),
  λ h. same-members (those n p) 0 (λ v. (λ t. let r = (those-iff n p v).0 t in absurd (h v r.0 r.1), λ t. absurd (subst T (bit-zero v) t))),
)

-- a set whose members are below n fits in n bits
pub members-lt : (n m : ℕ) → ((v : ℕ) → T (bit m v) → v < n) → m < 2 ^ n
members-lt n m h =
    rw (same-members m (those n (bit m)) (λ v. (λ t. (those-iff n (bit m) v).1 (h v t, t), λ t. ((those-iff n (bit m) v).0 t).1))) (those-lt n (bit m))

-- "a bit at n or above": the number is 2 ^ n or more
pub wide_bit : (n m : ℕ) → T (leb (2 ^ n) m) ↔ ((v : ℕ) × (n ≤ v) × T (bit m v))
wide_bit n m = (forth, back)
  where
    above : ℕ → Bool
    above v = leb n v && bit m v

    forth : T (leb (2 ^ n) m) → (v : ℕ) × (n ≤ v) × T (bit m v)
    forth t = go (lowest-cases m above)
      where
        low : ((w : ℕ) → w < m → T (above w) → ⊥) → (v : ℕ) → T (bit m v) → v < n
        low h v b = side (dec_lt v n)
          where
            side : Dec (v < n) → v < n
            side (yes l) = l
            side (no k) =
                let k' : ¬ (v < n) = k in
                let l : n ≤ v = omega arith in
                absurd (h v (bit-lt m m v (number_lt m) b) (and_T (leb n v) (bit m v) (le→leb n v l) b))

        go : ((lowest m above < m) × T (above (lowest m above))) ⊎ ((lowest m above ≡ m) × ((w : ℕ) → w < m → T (above w) → ⊥)) → (v : ℕ) × (n ≤ v) × T (bit m v)
        go (inl r) =
            let p = T_and (leb n (lowest m above)) (bit m (lowest m above)) r.1 in
            (lowest m above, leb→le n (lowest m above) p.0, p.1)
        go (inr r) = absurd (omega (arith, leb→le (2 ^ n) m t, members-lt n m (low r.1)))

    back : (v : ℕ) × (n ≤ v) × T (bit m v) → T (leb (2 ^ n) m)
    back r = side (dec_lt m (2 ^ n))
      where
        side : Dec (m < 2 ^ n) → T (leb (2 ^ n) m)
        side (yes l) =
            let k : n ≤ r.0 = r.1 in
            absurd (omega (arith, bit-lt n m r.0 l r.2))
        side (no k) =
            let k' : ¬ (m < 2 ^ n) = k in
            le→leb (2 ^ n) m (omega arith)
