-- The next member of a set: what shows that it is v or that there is none, and what a walk from one member to the next passes over. Assumes nothing.
use mathlib.Core.Path.{◌≡◌, sym, subst}
use mathlib.Core.Logic.{◌≢◌, ◌⊎◌, inl, inr}
use mathlib.Core.Bool.{Bool, true, false, ◌&&◌}
use Prim.Native.Nat.{ℕ, ◌+◌, ◌≤◌, ◌<◌}
use native.Mathlib.Omega.{arith}
use native.Mathlib.Decide.{ℕ_discrete, dec_lt}
use borrow.Author.Tests.{le-leb, lt-leb, leb-true}
use lib.Dec.{T, leb}
use Rattle.masks.specs.Sets.{bit, lowest}
use Rattle.masks.proofs.Tests.{T_and, T_true, and_T}
use Rattle.masks.proofs.Lowest.{lowest-is, lowest-le, lowest-cases}

-- the members at or above `from`
abbrev pub onward : ℕ → ℕ → ℕ → Bool
onward m from v = leb from v && bit m v

onward-no : (m from v : ℕ) → (from ≤ v → bit m v ≡ false) → onward m from v ≡ false
onward-no m from v h = go (dec_lt v from)
  where
    go : Dec (v < from) → onward m from v ≡ false
    go (yes l) = rw (lt-leb from v l)
    go (no k) =
        let k' : ¬ (v < from) = k in
        rw (le-leb from v (omega arith)) (h (omega arith))

pub next-found : (m from v : ℕ) → v < 64 → from ≤ v → bit m v ≡ true → ((w : ℕ) → from ≤ w → w < v → bit m w ≡ false)
    → v ≡ lowest 64 (onward m from)
next-found m from v l k t h = sym (lowest-is 64 (onward m from) v l (rw (le-leb from v k) t) (λ w j. onward-no m from w (λ i. h w i j)))

-- one position more that holds no member
pub past_more : (m from v : ℕ) → ((w : ℕ) → from ≤ w → w < v → bit m w ≡ false) → bit m v ≡ false
    → (w : ℕ) → from ≤ w → w < v + 1 → bit m w ≡ false
past_more m from v h e w k l = go (ℕ_discrete w v)
  where
    go : Dec (w ≡ v) → bit m w ≡ false
    go (yes q) = rw q e
    go (no q) =
        let q' : w ≢ v = q in
        h w k (omega arith)

-- ---- what a caller learns

pub record Next (m from r : ℕ) : Type 0 where
  pub bounded : r ≤ 64
  pub found : r < 64 → (from ≤ r) × T (bit m r)
  pub passed : (w : ℕ) → from ≤ w → w < r → T (bit m w) → ⊥

pub next-is : (m from r : ℕ) → r ≡ lowest 64 (onward m from) → Next m from r
next-is m from r e = subst (Next m from) (sym e) (go (lowest-cases 64 (onward m from)))
  where
    k : ℕ
    k = lowest 64 (onward m from)

    passed : (w : ℕ) → from ≤ w → w < k → k ≤ 64 → T (bit m w) → ⊥
    passed w i j b t =
        let z : k ≤ w = lowest-le 64 (onward m from) w (omega arith) (and_T (leb from w) (bit m w) (rw (le-leb from w i) tt) t) in
        omega arith

    go : ((k < 64) × T (onward m from k)) ⊎ ((k ≡ 64) × ((w : ℕ) → w < 64 → T (onward m from w) → ⊥)) → Next m from k
    go (inl r) =
        let p = T_and (leb from k) (bit m k) r.1 in
        record {
          bounded = omega (arith, r.0);
          found = λ l. (leb-true from k (T_true (leb from k) p.0), p.1);
          passed = λ w i j. passed w i j (omega (arith, r.0));
        }
    go (inr r) =
        let e : k ≡ 64 = r.0 in
        record { bounded = omega arith; found = λ l. absurd (omega arith); passed = λ w i j. passed w i j (omega arith) }

-- no member comes before it
pub next-least : {m from r : ℕ} → Next m from r → (w : ℕ) → from ≤ w → T (bit m w) → r ≤ w
next-least {m} {from} {r} x w l t = go (dec_lt w r)
  where
    go : Dec (w < r) → r ≤ w
    go (yes k) = absurd (x.passed w l k t)
    go (no k) =
        let k' : ¬ (w < r) = k in
        omega arith

pub next-after : {m from r : ℕ} → from ≤ 64 → Next m from r → from ≤ r
next-after {m} {from} {r} l x = go (dec_lt r 64)
  where
    go : Dec (r < 64) → from ≤ r
    go (yes k) = (x.found k).0
    go (no k) =
        let k' : ¬ (r < 64) = k in
        omega arith

-- the member after v, in a loop over the members: each turn goes up
pub next_up : (m v r : ℕ) → r ≡ lowest 64 (onward m (v + 1)) → v < 64 → (v < r) × (r ≤ 64)
next_up m v r e l =
    let x : Next m (v + 1) r = next-is m (v + 1) r e in
    (omega (arith, next-after (omega arith) x), x.bounded)
