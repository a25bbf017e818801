-- The members of a set as a list: the first of them is the lowest, and the rest are those of the set without it. Assumes nothing.
use mathlib.Core.Path.{◌≡◌, refl, sym, ap, ◌∙◌, subst}
use mathlib.Core.Logic.{◌≢◌}
use mathlib.Core.List.{List, [], ◌∷◌}
use Prim.Native.Nat.{ℕ, zero, suc, ◌+◌, ◌^◌, ◌≤◌, ◌<◌}
use native.Mathlib.Omega.{arith}
use native.Mathlib.Decide.{ℕ_discrete}
use lib.Dec.{T}
use Rattle.masks.specs.Sets.{pick, bit, cut}
use Rattle.masks.specs.Walk.{members_from, members_of, IsLowestOf, IsPast}
use Rattle.masks.proofs.Tests.{T_true, T_false}
use Rattle.masks.proofs.Bits.{bit-zero, no_member}
use Rattle.masks.proofs.PutCut.{cut-same, cut-other, cut-from}
use mathlib.Core.Bool.{true, false}

-- they go by the members alone
members-ext : (k v a b : ℕ) → ((w : ℕ) → v ≤ w → bit a w ≡ bit b w) → members_from k v a ≡ members_from k v b
unfolding members_from
members-ext zero v a b h = refl
members-ext (suc k) v a b h = rw (h v (omega arith), members-ext k (suc v) a b (λ w l. h w (omega arith)))

pub members-none : (k v : ℕ) → members_from k v 0 ≡ []
unfolding members_from
members-none zero v = refl
members-none (suc k) v = rw (bit-zero v) (members-none k (suc v))

members-first : (k a s v : ℕ) → a ≤ v → v < a + k → T (bit s v) → ((w : ℕ) → w < v → T (bit s w) → ⊥)
    → members_from k a s ≡ v ∷ members_from k a (cut s v)
unfolding members_from
members-first zero a s v l h t f = absurd (omega arith)
members-first (suc k) a s v l h t f = go (ℕ_discrete a v) (λ i. members-first k (suc a) s v i (omega arith) t f)
  where
    go : Dec (a ≡ v) → (a < v → members_from k (suc a) s ≡ v ∷ members_from k (suc a) (cut s v)) → pick (bit s a) (a ∷ members_from k (suc a) s) (members_from k (suc a) s)
        ≡ v ∷ pick (bit (cut s v) a) (a ∷ members_from k (suc a) (cut s v)) (members_from k (suc a) (cut s v))
    go (yes e) ih =
        rw (e, T_true (bit s v) t, cut-same s v)
        (ap (λ (l : List ℕ). v ∷ l) (members-ext k (suc v) s (cut s v) (λ w i. sym (cut-other s v w (λ q. omega arith)))))
    go (no n) ih =
        let k' : a ≢ v = n in
        rw (cut-other s v a k', T_false (bit s a) (f a (omega arith))) (ih (omega arith))

pub members-taken : {s v t : ℕ} → IsLowestOf s v t → members_of s ≡ v ∷ members_of t
members-taken {s} {v} {t} h = members-first 64 0 s v (omega arith) (omega (arith, h.inner)) h.member h.lowest ∙ ap (λ (m : ℕ). v ∷ members_of m) (sym h.rest)

-- ---- a walk up the positions of m, none below v a member

-- v is a member
pub turn-taken : (m s v t : ℕ) → m ≡ s → IsPast m v → v < 64 → bit m v ≡ true → t ≡ cut m v → IsLowestOf s v t
turn-taken m s v t p past l e q = subst (λ x. IsLowestOf x v t) p (record { inner = l; member = subst T (sym e) tt; lowest = past.1; rest = q })

pub turn_past : (m v t : ℕ) → IsPast m v → v < 64 → t ≡ cut m v → IsPast t (v + 1)
turn_past m v t past l q = (omega arith, λ w k i. go w k (cut-from m v w (subst (λ z. T (bit z w)) q i)))
  where
    go : (w : ℕ) → w < v + 1 → (w ≢ v) × T (bit m w) → ⊥
    go w k p =
        let d : w ≢ v = p.0 in
        past.1 w (omega arith) p.1

-- v is no member
pub turn-over : (m v : ℕ) → IsPast m v → v < 64 → bit m v ≡ false → IsPast m (v + 1)
turn-over m v past l e = (omega arith, λ w k. go w k (ℕ_discrete w v))
  where
    go : (w : ℕ) → w < v + 1 → Dec (w ≡ v) → T (bit m w) → ⊥
    go w k (yes q) t = subst T (ap (bit m) q ∙ e) t
    go w k (no d) t =
        let d' : w ≢ v = d in
        past.1 w (omega arith) t

-- no position is left
pub turn-none : (m v : ℕ) → IsPast m v → 64 ≤ v → m < 2 ^ 64 → m ≡ 0
turn-none m v past l f = no_member 64 m f (λ w k. past.1 w (omega arith))
