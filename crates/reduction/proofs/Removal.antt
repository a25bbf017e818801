-- A flip-flop taken out of a graph: the law that rules 2, 3 and 4 share, rule 2 in both its halves, and rule 1. Shown on walks: one that never goes into v
-- doesn't need v. Assumes nothing.
use mathlib.Core.Path.{◌≡◌, refl, sym, ap, ◌∙◌, subst, fun_ext}
use mathlib.Core.Logic.{◌≢◌, inl, inr, ◌↔◌}
use mathlib.Core.Bool.{Bool, true, false, not, ◌&&◌, and_comm, true≢false}
use Prim.Native.Nat.{ℕ, ◌<◌, ◌^◌}
use native.Mathlib.Omega.{arith}
use lib.Dec.{T, eqb}
use Rattle.masks.specs.Sets.{bit, put, cut}
use Rattle.masks.proofs.Tests.{and_T, T_and, T-left, ne-T, T-ne}
use Rattle.masks.proofs.PutCut.{put-new, put_same, put_other, put-lt, put-cut, cut-same, cut-other, cut-lt}
use Rattle.masks.proofs.Weights.{weight-new}
use Rattle.graphs.specs.Graph.{Walk, edge_to, step_to}
use Rattle.graphs.specs.Light.{left, Lighter}
use Rattle.graphs.proofs.Walks.{flip, start-kept, carry}
use Rattle.graphs.proofs.Loops.{Hits}
use Rattle.graphs.proofs.Lightest.{AsLight, Least, least_by, flip-hits, as-light-lighter, cut-lighter}

-- the graph without v
abbrev pub without : (ℕ → ℕ → Bool) → ℕ → ℕ → ℕ → Bool
without E v a b = (not (eqb a v) && not (eqb b v)) && E a b

-- the allowed sets without v
abbrev pub Without : ℕ → (ℕ → Type 0) → ℕ → Type 0
Without v P S = P S × (bit S v ≡ false)

-- ---- the same graph, and the graph the other way round

pub same-least : (c : ℕ → ℕ) (n : ℕ) (P : ℕ → Type 0) (E E' : ℕ → ℕ → Bool) → ((a b : ℕ) → E a b ≡ E' a b) → (S : ℕ) → Least c n P E S → Least c n P E' S
same-least c n P E E' e S l = subst (λ F. Least c n P F S) (fun_ext (λ a. fun_ext (λ b. e a b))) l

pub mirror-least : (c : ℕ → ℕ) (n : ℕ) (P : ℕ → Type 0) (E : ℕ → ℕ → Bool) (S : ℕ) → Least c n P E S ↔ Least c n P (flip E) S
mirror-least c n P E = least_by c n P E (flip E) (flip-hits E)

pub without-flip : (E : ℕ → ℕ → Bool) (v a b : ℕ) → without E v a b ≡ flip (without (flip E) v) a b
without-flip E v a b = ap (λ x. x && E a b) (and_comm (not (eqb a v)) (not (eqb b v)))

-- ---- a walk that needs no v

module _ (E : ℕ → ℕ → Bool) (v : ℕ) where
  pub thin-edge : (a b : ℕ) → T (without E v a b) → (a ≢ v) × (b ≢ v) × T (E a b)
  thin-edge a b t =
      let p = T_and (not (eqb a v) && not (eqb b v)) (E a b) t in
      let q = T_and (not (eqb a v)) (not (eqb b v)) p.0 in
      (T-ne a v q.0, T-ne b v q.1, p.1)

  pub thick-edge : (a b : ℕ) → a ≢ v → b ≢ v → T (E a b) → T (without E v a b)
  thick-edge a b p q e = search (and_T, ne-T)

  -- kept by one, kept by the other, but for v
  abbrev pub Inside : (ℕ → Bool) → (ℕ → Bool) → Type 0
  Inside K K' = (x : ℕ) → x ≢ v → T (K x) → T (K' x)

  thicken : (K K' : ℕ → Bool) → Inside K K' → {a b : ℕ} → Walk (without E v) K a b → Walk E K' a b
  thicken K K' i p = carry (λ a b k l e. let t = thin-edge a b e in (i a t.0 k, i b t.1 l, t.2)) p

  -- where no edge of a walk can go into v
  module _ (K K' : ℕ → Bool) (closed : (a : ℕ) → T (K a) → T (K v) → T (E a v) → ⊥) (i : Inside K K') where
    end-other : (a b : ℕ) → T (K a) → T (K b) → T (E a b) → b ≢ v
    end-other a b k l e p = closed a k (subst (λ x. T (K x)) p l) (subst (λ x. T (E a x)) p e)

    thinned : {a b : ℕ} → Walk E K a b → (b ≢ v) × (a ≢ v → Walk (without E v) K' a b)
    thinned {a} {b} (edge_to k l e) =
        let nb : b ≢ v = end-other a b k l e in
        (nb, λ p. edge_to (i a p k) (i b nb l) (thick-edge a b p nb e))
    thinned {a} {b} (step_to {x = x} k e w) =
        let nx : x ≢ v = end-other a x k (start-kept w) e in
        ((thinned w).0, λ p. step_to (i a p k) (thick-edge a x p nx e) ((thinned w).1 nx))

  -- what R hits without v, S hits, where what S leaves but for v R leaves too, and no edge into v is left
  pub thick-hits : (S R : ℕ) → ((a : ℕ) → T (left S a) → T (left S v) → T (E a v) → ⊥) → Inside (left S) (left R) → Hits (without E v) R → Hits E S
  thick-hits S R closed i h w p =
      let t = thinned (left S) (left R) closed i p in
      h w (t.1 t.0)

  -- what S hits, R hits without v, where what R leaves but for v S leaves too
  pub thin-hits : (S R : ℕ) → Inside (left R) (left S) → Hits E S → Hits (without E v) R
  thin-hits S R i h w p = h w (thicken (left R) (left S) i p)

-- ---- the law: where each set with v has a lighter one without v, `better`, and the sets without v hit the same in both graphs, the lightest set of the
-- second graph without v is the lightest set of the first

pub record Removes (c : ℕ → ℕ) (n : ℕ) (P : ℕ → Type 0) (E E' : ℕ → ℕ → Bool) (v : ℕ) : Type 0 where
  pub better : ℕ → ℕ
  pub allowed : (S : ℕ) → P S → P (better S)
  pub fits : (S : ℕ) → S < 2 ^ n → better S < 2 ^ n
  pub gone : (S : ℕ) → bit (better S) v ≡ false
  pub hits : (S : ℕ) → Hits E S → Hits E (better S)
  pub lighter : (S : ℕ) → bit S v ≡ true → Lighter c n (better S) S
  pub same : (S : ℕ) → bit S v ≡ false → Hits E S ↔ Hits E' S

pub removes : (c : ℕ → ℕ) (n : ℕ) (P : ℕ → Type 0) (E E' : ℕ → ℕ → Bool) (v : ℕ) → Removes c n P E E' v
    → (S : ℕ) → Least c n (Without v P) E' S → Least c n P E S
removes c n P E E' v r S l =
    record { fits = l.fits; allowed = l.allowed.0; hits = (r.same S l.allowed.1).1 l.hits; least = λ R f a h. go R f a h (bit R v) refl }
  where
    free : (R : ℕ) → R < 2 ^ n → P R → Hits E R → bit R v ≡ false → AsLight c n S R
    free R f a h e = l.least R f (a, e) ((r.same R e).0 h)

    go : (R : ℕ) → R < 2 ^ n → P R → Hits E R → (x : Bool) → bit R v ≡ x → AsLight c n S R
    go R f a h false e = free R f a h e
    go R f a h true e = as-light-lighter c n S (r.better R) R (free (r.better R) (r.fits R f) (r.allowed R a) (r.hits R h) (r.gone R)) (r.lighter R e)

-- ---- rule 2: v has no edge in, or none out

pub rule2-in : (c : ℕ → ℕ) (n : ℕ) (P : ℕ → Type 0) (E : ℕ → ℕ → Bool) (v : ℕ) → v < n → ((S : ℕ) → P S → P (cut S v)) → ((a : ℕ) → T (E a v) → ⊥)
    → (S : ℕ) → Least c n (Without v P) (without E v) S → Least c n P E S
rule2-in c n P E v lv ok h =
    removes c n P E (without E v) v
    (record {
      better = λ S. cut S v;
      allowed = ok;
      fits = λ S. cut-lt n S v;
      gone = λ S. cut-same S v;
      hits = λ S g. thick-hits E v (cut S v) S (λ a k l. h a) (λ x q t. subst (λ b. T (not b)) (cut-other S v x q) t) (thin S g);
      lighter = λ S. cut-lighter c n v S lv;
      same = λ S e. (thin S, thick-hits E v S S (λ a k l. h a) (λ x q t. t));
    })
  where
    thin : (S : ℕ) → Hits E S → Hits (without E v) S
    thin S = thin-hits E v S S (λ x q t. t)

pub rule2-out : (c : ℕ → ℕ) (n : ℕ) (P : ℕ → Type 0) (E : ℕ → ℕ → Bool) (v : ℕ) → v < n → ((S : ℕ) → P S → P (cut S v)) → ((a : ℕ) → T (E v a) → ⊥)
    → (S : ℕ) → Least c n (Without v P) (without E v) S → Least c n P E S
rule2-out c n P E v lv ok h S l =
    (mirror-least c n P E S).1
    (rule2-in c n P (flip E) v lv ok h S
    ((mirror-least c n (Without v P) (without (flip E) v) S).1
    (same-least c n (Without v P) (without E v) (flip (without (flip E) v)) (without-flip E v) S l)))

-- ---- rule 1: v has an edge to itself

-- v is in every set that hits all closed walks
pub self-held : (E : ℕ → ℕ → Bool) (v : ℕ) → T (E v v) → (S : ℕ) → Hits E S → bit S v ≡ true
self-held E v h S g = go (bit S v) refl
  where
    go : (x : Bool) → bit S v ≡ x → bit S v ≡ true
    go true e = e
    go false e =
        let k : T (left S v) = rw e tt in
        absurd (g v (edge_to k k h))

-- a set with v hits where its rest hits without v
pub put-hits : (E : ℕ → ℕ → Bool) (v R : ℕ) → Hits E (put R v) ↔ Hits (without E v) R
put-hits E v R = (
  thin-hits E v (put R v) R (λ x q t. subst (λ b. T (not b)) (sym (put_other R v x q)) t),
  thick-hits E v (put R v) R (λ a k l e. true≢false (sym (put_same R v) ∙ T-left (bit (put R v) v) l))
      (λ x q t. subst (λ b. T (not b)) (put_other R v x q) t),
)

-- v added to both changes no order
put_order : (c : ℕ → ℕ) (n v : ℕ) → v < n → (R Q : ℕ) → bit R v ≡ false → bit Q v ≡ false → AsLight c n R Q → AsLight c n (put R v) (put Q v)
put_order c n v lv R Q r q (inl a) = inl (omega (arith, weight-new c n R v lv r, weight-new c n Q v lv q))
put_order c n v lv R Q r q (inr a) =
    inr (omega (arith, weight-new c n R v lv r, weight-new c n Q v lv q), omega (arith, put-new R v r, put-new Q v q))

-- R, with v added, is allowed
abbrev pub Rest : ℕ → (ℕ → Type 0) → ℕ → Type 0
Rest v P R = P (put R v) × (bit R v ≡ false)

-- the lightest set is v and the lightest set of the rest
pub rule1 : (c : ℕ → ℕ) (n : ℕ) (P : ℕ → Type 0) (E : ℕ → ℕ → Bool) (v : ℕ) → v < n → T (E v v) → (R : ℕ) → Least c n (Rest v P) (without E v) R
    → Least c n P E (put R v)
rule1 c n P E v lv h R l =
    record {
      fits = put-lt n R v l.fits lv;
      allowed = l.allowed.0;
      hits = (put-hits E v R).1 l.hits;
      least = λ Q f a g.
          let e : put (cut Q v) v ≡ Q = put-cut Q v (self-held E v h Q g) in
          let g' : Hits E (put (cut Q v) v) = subst (λ z. Hits E z) (sym e) g in
          subst (λ z. AsLight c n (put R v) z) e
          (put_order c n v lv R (cut Q v) l.allowed.1 (cut-same Q v)
          (l.least (cut Q v) (cut-lt n Q v f) (subst (λ z. P z) (sym e) a, cut-same Q v) ((put-hits E v (cut Q v)).0 g')));
    }
