-- The order of the sets and the lightest of them: no two sets are equally light, so there is at most one lightest; what it depends on; and that a cheaper
-- flip-flop in another's place makes a set lighter. Assumes nothing.
use mathlib.Core.Path.{◌≡◌, refl, sym, ap, ◌∙◌, subst}
use mathlib.Core.Logic.{◌≢◌, ◌⊎◌, inl, inr, ⊎_elim, ◌↔◌}
use mathlib.Core.Bool.{Bool, true, false}
use Prim.Native.Nat.{ℕ, ◌+◌, ◌≤◌, ◌<◌, ◌^◌}
use native.Mathlib.Omega.{arith}
use native.Mathlib.Decide.{ℕ_discrete, dec_lt}
use lib.Pow.{pow-lt, pow_pos}
use Rattle.masks.specs.Sets.{bit, put, cut, weight}
use Rattle.masks.proofs.PutCut.{put-kept, put-new, put_same, put_other, put-lt, cut-add, cut-same, cut-other, cut-lt}
use Rattle.masks.proofs.Weights.{weight-new, weight-gone}
use Rattle.graphs.specs.Light.{Lighter, Lightest}
use Rattle.graphs.proofs.Walks.{flip, flip-walk}
use Rattle.graphs.proofs.Loops.{Hits, meets-hits}

-- ---- the order

-- S is R or lighter
abbrev pub AsLight : (ℕ → ℕ) → ℕ → ℕ → ℕ → Type 0
AsLight c n S R = (weight c n S < weight c n R) ⊎ ((weight c n S ≡ weight c n R) × (S ≤ R))

compared : (a b : ℕ) → (a < b) ⊎ ((a ≡ b) ⊎ (b < a))
compared a b = go (dec_lt a b) (dec_lt b a)
  where
    go : Dec (a < b) → Dec (b < a) → (a < b) ⊎ ((a ≡ b) ⊎ (b < a))
    go (yes l) d = inl l
    go (no k) (yes l) = inr (inr l)
    go (no k) (no j) =
        let k' : ¬ (a < b) = k in
        let j' : ¬ (b < a) = j in
        inr (inl (omega arith))

-- "No two sets are equally light"
pub lighter-total : (c : ℕ → ℕ) (n S R : ℕ) → Lighter c n S R ⊎ ((S ≡ R) ⊎ Lighter c n R S)
lighter-total c n S R = go (compared (weight c n S) (weight c n R)) (compared S R)
  where
    go : (weight c n S < weight c n R) ⊎ ((weight c n S ≡ weight c n R) ⊎ (weight c n R < weight c n S)) → (S < R) ⊎ ((S ≡ R) ⊎ (R < S))
        → Lighter c n S R ⊎ ((S ≡ R) ⊎ Lighter c n R S)
    go (inl l) d = inl (inl l)
    go (inr (inl e)) (inl l) = inl (inr (e, omega arith))
    go (inr (inl e)) (inr (inl f)) = inr (inl f)
    go (inr (inl e)) (inr (inr l)) = inr (inr (inr (sym e, omega arith)))
    go (inr (inr l)) d = inr (inr (inl l))

pub lighter-not : (c : ℕ → ℕ) (n S R : ℕ) → Lighter c n S R → AsLight c n R S → ⊥
lighter-not c n S R (inl p) (inl q) = omega arith
lighter-not c n S R (inl p) (inr q) = omega arith
lighter-not c n S R (inr p) (inl q) = omega arith
lighter-not c n S R (inr p) (inr q) = omega arith

pub as-light-refl : (c : ℕ → ℕ) (n S R : ℕ) → S ≡ R → AsLight c n S R
as-light-refl c n S R e = inr (ap (weight c n) e, omega arith)

pub lighter-as-light : (c : ℕ → ℕ) (n S R : ℕ) → Lighter c n S R → AsLight c n S R
lighter-as-light c n S R (inl p) = inl p
lighter-as-light c n S R (inr p) = inr (p.0, omega arith)

pub lighter-irrefl : (c : ℕ → ℕ) (n S : ℕ) → Lighter c n S S → ⊥
lighter-irrefl c n S p = lighter-not c n S S p (as-light-refl c n S S refl)

pub as-light-trans : (c : ℕ → ℕ) (n S R Q : ℕ) → AsLight c n S R → AsLight c n R Q → AsLight c n S Q
as-light-trans c n S R Q (inl p) (inl q) = inl (omega arith)
as-light-trans c n S R Q (inl p) (inr q) = inl (omega arith)
as-light-trans c n S R Q (inr p) (inl q) = inl (omega arith)
as-light-trans c n S R Q (inr p) (inr q) = inr (omega arith, omega arith)

pub as-light-lighter : (c : ℕ → ℕ) (n S R Q : ℕ) → AsLight c n S R → Lighter c n R Q → AsLight c n S Q
as-light-lighter c n S R Q p q = as-light-trans c n S R Q p (lighter-as-light c n R Q q)

pub as-light-both : (c : ℕ → ℕ) (n S R : ℕ) → AsLight c n S R → AsLight c n R S → S ≡ R
as-light-both c n S R (inl p) (inl q) = omega arith
as-light-both c n S R (inl p) (inr q) = omega arith
as-light-both c n S R (inr p) (inl q) = omega arith
as-light-both c n S R (inr p) (inr q) = omega arith

pub not-lighter : (c : ℕ → ℕ) (n S R : ℕ) → (Lighter c n R S → ⊥) ↔ AsLight c n S R
not-lighter c n S R = (
  (λ k. ⊎_elim (lighter-as-light c n S R) (⊎_elim (as-light-refl c n S R) (λ l. absurd (k l))) (lighter-total c n S R)),
  λ a l. lighter-not c n R S l a,
)

-- ---- the lightest set, by walks and the order "as light"

pub record Least (c : ℕ → ℕ) (n : ℕ) (P : ℕ → Type 0) (E : ℕ → ℕ → Bool) (S : ℕ) : Type 0 where
  pub fits : S < 2 ^ n
  pub allowed : P S
  pub hits : Hits E S
  pub least : (R : ℕ) → R < 2 ^ n → P R → Hits E R → AsLight c n S R

module _ (c : ℕ → ℕ) (n : ℕ) (P : ℕ → Type 0) (E : ℕ → ℕ → Bool) where
  pub least_iff : (S : ℕ) → Lightest c n P E S ↔ Least c n P E S
  least_iff S = (
    (λ l. record {
      fits = l.fits;
      allowed = l.allowed;
      hits = (meets-hits E S).0 l.meets;
      least = λ R f a h. (not-lighter c n S R).0 (l.least R f a ((meets-hits E R).1 h));
    }),
    λ l. record {
      fits = l.fits;
      allowed = l.allowed;
      meets = (meets-hits E S).1 l.hits;
      least = λ R f a m. (not-lighter c n S R).1 (l.least R f a ((meets-hits E R).0 m));
    },
  )

  pub least-unique : (S R : ℕ) → Least c n P E S → Least c n P E R → S ≡ R
  least-unique S R p q =
      as-light-both c n S R (p.least R q.fits q.allowed q.hits) (q.least S p.fits p.allowed p.hits)

pub lightest-unique : {c : ℕ → ℕ} {n : ℕ} {P : ℕ → Type 0} {E : ℕ → ℕ → Bool} {S R : ℕ} → Lightest c n P E S → Lightest c n P E R → S ≡ R
lightest-unique {c} {n} {P} {E} {S} {R} p q = least-unique c n P E S R ((least_iff c n P E S).0 p) ((least_iff c n P E R).0 q)

-- the lightest set goes by what the sets meet
pub least_by : (c : ℕ → ℕ) (n : ℕ) (P : ℕ → Type 0) (E E' : ℕ → ℕ → Bool) → ((S : ℕ) → Hits E S ↔ Hits E' S) → (S : ℕ) → Least c n P E S ↔ Least c n P E' S
least_by c n P E E' e S = (
  (λ l. record { fits = l.fits; allowed = l.allowed; hits = (e S).0 l.hits; least = λ R f a g. l.least R f a ((e R).1 g) }),
  λ l. record { fits = l.fits; allowed = l.allowed; hits = (e S).1 l.hits; least = λ R f a g. l.least R f a ((e R).0 g) },
)

-- which sets are allowed matters only up to the sets that fit
pub least-of : (c : ℕ → ℕ) (n : ℕ) (P Q : ℕ → Type 0) (E : ℕ → ℕ → Bool) → ((R : ℕ) → R < 2 ^ n → P R ↔ Q R) → (S : ℕ) → Least c n P E S ↔ Least c n Q E S
least-of c n P Q E e S = (
  (λ l. record { fits = l.fits; allowed = (e S l.fits).0 l.allowed; hits = l.hits; least = λ R f a h. l.least R f ((e R f).1 a) h }),
  λ l. record { fits = l.fits; allowed = (e S l.fits).1 l.allowed; hits = l.hits; least = λ R f a h. l.least R f ((e R f).0 a) h },
)

pub flip-hits : (E : ℕ → ℕ → Bool) (S : ℕ) → Hits E S ↔ Hits (flip E) S
flip-hits E S = ((λ h w p. h w (flip-walk p)), λ h w p. h w (flip-walk p))

-- ---- u in the place of v

unfoldable pub swap : ℕ → ℕ → ℕ → ℕ
swap u v S = put (cut S v) u

pub swap-u : (u v S : ℕ) → bit (swap u v S) u ≡ true
unfolding swap
swap-u u v S = put_same (cut S v) u

pub swap-v : (u v S : ℕ) → u ≢ v → bit (swap u v S) v ≡ false
unfolding swap
swap-v u v S k = put_other (cut S v) u v (λ e. k (sym e)) ∙ cut-same S v

pub swap-other : (u v S x : ℕ) → x ≢ u → x ≢ v → bit (swap u v S) x ≡ bit S x
unfolding swap
swap-other u v S x p q = put_other (cut S v) u x p ∙ cut-other S v x q

pub swap-lt : (n u v S : ℕ) → u < n → S < 2 ^ n → swap u v S < 2 ^ n
unfolding swap
swap-lt n u v S l h = put-lt n (cut S v) u (cut-lt n S v h) l

-- a set without v is lighter
pub cut-lighter : (c : ℕ → ℕ) (n v S : ℕ) → v < n → bit S v ≡ true → Lighter c n (cut S v) S
cut-lighter c n v S lv hv = go (ℕ_discrete (c v) 0)
  where
    go : Dec (c v ≡ 0) → Lighter c n (cut S v) S
    go (yes z) = inr (omega (arith, weight-gone c n S v lv hv), omega (arith, cut-add S v hv, pow_pos v))
    go (no z) =
        let z' : c v ≢ 0 = z in
        inl (omega (arith, weight-gone c n S v lv hv))

-- and so is one with u for v, where u costs less than v, or the same and u < v
pub swap-lighter : (c : ℕ → ℕ) (n u v : ℕ) → u < n → v < n → (c u < c v) ⊎ ((c u ≡ c v) × (u < v)) → (S : ℕ) → bit S v ≡ true → Lighter c n (swap u v S) S
unfolding swap
swap-lighter c n u v lu lv cheap S hv = go (bit R u) refl cheap
  where
    R : ℕ
    R = cut S v

    cost : weight c n R + c v ≡ weight c n S
    cost = weight-gone c n S v lv hv

    go : (x : Bool) → bit R u ≡ x → (c u < c v) ⊎ ((c u ≡ c v) × (u < v)) → Lighter c n (put R u) S
    go true e d = subst (λ x. Lighter c n x S) (sym (put-kept R u e)) (cut-lighter c n v S lv hv)
    go false e (inl d) = inl (omega (arith, cost, weight-new c n R u lu e))
    go false e (inr d) =
        let p : 2 ^ u < 2 ^ v = pow-lt d.1 in
        inr (omega (arith, cost, weight-new c n R u lu e), omega (arith, cut-add S v hv, put-new R u e))

-- v added to both sets changes no order
pub put_order : (c : ℕ → ℕ) (n v : ℕ) → v < n → (S R : ℕ) → bit S v ≡ false → bit R v ≡ false → AsLight c n S R ↔ AsLight c n (put S v) (put R v)
put_order c n v lv S R s r = (up, down)
  where
    ws : weight c n (put S v) ≡ weight c n S + c v
    ws = weight-new c n S v lv s

    wr : weight c n (put R v) ≡ weight c n R + c v
    wr = weight-new c n R v lv r

    up : AsLight c n S R → AsLight c n (put S v) (put R v)
    up (inl a) = inl (omega (arith, ws, wr))
    up (inr a) = inr (omega (arith, ws, wr), omega (arith, put-new S v s, put-new R v r))

    down : AsLight c n (put S v) (put R v) → AsLight c n S R
    down (inl a) = inl (omega (arith, ws, wr))
    down (inr a) = inr (omega (arith, ws, wr), omega (arith, put-new S v s, put-new R v r))
