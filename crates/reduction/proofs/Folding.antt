-- A flip-flop folded into its one neighbour: rule 3, and rule 4 as rule 3 of the graph the other way round. A closed walk that passes v passes u just before,
-- so the fold has one exactly where the graph has; and u for v in a set is lighter. Assumes nothing.
use mathlib.Core.Path.{◌≡◌, sym, ap, ◌∙◌, subst}
use mathlib.Core.Logic.{◌≢◌, ◌⊎◌, inl, inr, ⊎_elim, ◌↔◌}
use mathlib.Core.Bool.{Bool, false, not, ◌&&◌, ◌||◌, true≢false}
use Prim.Native.Nat.{ℕ, ◌<◌}
use native.Mathlib.Decide.{ℕ_discrete}
use lib.Dec.{T, eqb, eqb→eq, eqb_refl}
use Rattle.masks.specs.Sets.{bit}
use Rattle.masks.proofs.Tests.{and_T, T_and, T-or, or_l, or_r, T-left}
use Rattle.graphs.specs.Graph.{Walk, edge_to, step_to}
use Rattle.graphs.specs.Light.{left}
use Rattle.graphs.proofs.Walks.{flip, start-kept, snoc}
use Rattle.graphs.proofs.Loops.{Hits}
use Rattle.graphs.proofs.Lightest.{Least, swap, swap-u, swap-v, swap-other, swap-lt, swap-lighter}
use Rattle.reduction.proofs.Removal.{without, Without, mirror-least, thin-edge, thick-edge, thick-hits, thin-hits, removes}

-- v has one in-neighbour, u, and u is not v
pub record OneIn (E : ℕ → ℕ → Bool) (u v : ℕ) : Type 0 where
  pub enters : T (E u v)
  pub only : (a : ℕ) → T (E a v) → a ≡ u
  pub other : u ≢ v

-- u gets the edges of v
abbrev pub gain : (ℕ → ℕ → Bool) → ℕ → ℕ → ℕ → ℕ → Bool
gain E u v a b = E a b || (eqb a u && E v b)

-- and v is removed
abbrev pub fold : (ℕ → ℕ → Bool) → ℕ → ℕ → ℕ → ℕ → Bool
fold E u v = without (gain E u v) v

pub gain-edge : (E : ℕ → ℕ → Bool) (u v a b : ℕ) → T (gain E u v a b) → T (E a b) ⊎ ((a ≡ u) × T (E v b))
gain-edge E u v a b t = ⊎_elim (λ e. inl e) (λ e. let p = T_and (eqb a u) (E v b) e in inr (eqb→eq a u p.0, p.1)) (T-or (E a b) (eqb a u && E v b) t)

module _ (E : ℕ → ℕ → Bool) (u v : ℕ) (h : OneIn E u v) where
  no_self : (a b : ℕ) → T (E a b) → a ≡ v → b ≢ v
  no_self a b e p q = h.other (sym (h.only a (subst (λ x. T (E a x)) q e)) ∙ p)

  fold-edge : (a b : ℕ) → a ≢ v → b ≢ v → T (E a b) → T (fold E u v a b)
  fold-edge a b p q e = thick-edge (gain E u v) v a b p q (or_l (E a b) (eqb a u && E v b) e)

  fold-jump : (a b : ℕ) → b ≢ v → a ≡ v → T (E a b) → T (fold E u v u b)
  fold-jump a b q p e =
      let f : T (E v b) = subst (λ x. T (E x b)) p e in
      thick-edge (gain E u v) v u b h.other q (or_r (E u b) (eqb u u && E v b) (and_T (eqb u u) (E v b) (eqb_refl u) f))

  module _ (K : ℕ → Bool) (kv : T (K v)) where
    -- a walk to another than v: of the fold too, from u where it starts at v
    forth : {a b : ℕ} → b ≢ v → Walk E K a b → (a ≢ v → Walk (fold E u v) K a b) × (a ≡ v → T (K u) → Walk (fold E u v) K u b)
    forth {a} {b} q (edge_to k l e) = ((λ p. edge_to k l (fold-edge a b p q e)), λ p ku. edge_to ku l (fold-jump a b q p e))
    forth {a} {b} q (step_to {x = x} k e w) = go (ℕ_discrete x v) (forth q w)
      where
        go : Dec (x ≡ v) → (x ≢ v → Walk (fold E u v) K x b) × (x ≡ v → T (K u) → Walk (fold E u v) K u b)
            → (a ≢ v → Walk (fold E u v) K a b) × (a ≡ v → T (K u) → Walk (fold E u v) K u b)
        go (yes r) ih =
            let f : a ≡ u = h.only a (subst (λ y. T (E a y)) r e) in
            ((λ p. subst (λ y. Walk (fold E u v) K y b) (sym f) (ih.1 r (subst (λ y. T (K y)) f k))), λ p. absurd (no_self a x e p r))
        go (no r) ih = ((λ p. step_to k (fold-edge a x p r e) (ih.0 r)), λ p ku. step_to ku (fold-jump a x r p e) (ih.0 r))

    pub fold-forth : (a : ℕ) → Walk E K a a → (d : ℕ) × Walk (fold E u v) K d d
    fold-forth a p = go (ℕ_discrete a v) p
      where
        go : Dec (a ≡ v) → Walk E K a a → (d : ℕ) × Walk (fold E u v) K d d
        go (no r) p = (a, (forth r p).0 r)
        -- the walk starts at v: begin at its second flip-flop
        go (yes r) (edge_to k l e) = absurd (no_self a a e r r)
        go (yes r) (step_to {x = x} k e p) =
            let x≢v : x ≢ v = no_self a x e r in
            (x, (forth x≢v (snoc p e (start-kept p))).0 x≢v)

    -- an edge of the fold is an edge, or goes through v
    back-edge : (a b : ℕ) → T (fold E u v a b) → T (E a b) ⊎ (T (E a v) × T (E v b))
    back-edge a b e = ⊎_elim (λ t. inl t) (λ t. inr (rw t.0 h.enters, t.1)) (gain-edge E u v a b (thin-edge (gain E u v) v a b e).2)

    pub fold-back : {a b : ℕ} → Walk (fold E u v) K a b → Walk E K a b
    fold-back {a} {b} (edge_to k l e) = ⊎_elim (λ f. edge_to k l f) (λ f. step_to k f.0 (edge_to kv l f.1)) (back-edge a b e)
    fold-back {a} {b} (step_to {x = x} k e p) = go (back-edge a x e) (fold-back p)
      where
        go : T (E a x) ⊎ (T (E a v) × T (E v x)) → Walk E K x b → Walk E K a b
        go (inl f) q = step_to k f q
        go (inr f) q = step_to k f.0 (step_to kv f.1 q)

  -- a set without v hits the graph exactly where it hits the fold
  pub fold-hits : (S : ℕ) → bit S v ≡ false → Hits E S ↔ Hits (fold E u v) S
  fold-hits S e =
      let kv : T (left S v) = rw e tt in
      ((λ g w p. g w (fold-back (left S) kv p)), λ g w p. let q = fold-forth (left S) kv w p in g q.0 q.1)

  -- a set with u for v hits what the set hits
  pub swap-hits : (S : ℕ) → Hits E S → Hits E (swap u v S)
  swap-hits S g =
      thick-hits E v (swap u v S) S (λ a k l e. gone a (h.only a e) k)
      (λ x q t. subst (λ b. T (not b)) (swap-other u v S x (λ y. gone x y t) q) t) (thin-hits E v S S (λ x q t. t) g)
    where
      gone : (x : ℕ) → x ≡ u → T (left (swap u v S) x) → ⊥
      gone x y t = true≢false (sym (swap-u u v S) ∙ ap (bit (swap u v S)) (sym y) ∙ T-left (bit (swap u v S) x) t)

-- ---- the rules, for a graph E and allowed sets P

-- "u costs less than v, or the same and u < v"
abbrev pub Cheaper : (ℕ → ℕ) → ℕ → ℕ → Type 0
Cheaper c u v = (c u < c v) ⊎ ((c u ≡ c v) × (u < v))

-- u may take the place of v in a set, and makes it lighter
pub record Better (c : ℕ → ℕ) (n : ℕ) (P : ℕ → Type 0) (u v : ℕ) : Type 0 where
  pub u-lt : u < n
  pub v-lt : v < n
  pub allowed : (S : ℕ) → P S → P (swap u v S)
  pub cheaper : Cheaper c u v

pub rule3 : (c : ℕ → ℕ) (n : ℕ) (P : ℕ → Type 0) (E : ℕ → ℕ → Bool) (u v : ℕ) → Better c n P u v → OneIn E u v
    → (S : ℕ) → Least c n (Without v P) (fold E u v) S → Least c n P E S
rule3 c n P E u v b h =
    removes c n P E (fold E u v) v
    (record {
      better = swap u v;
      allowed = b.allowed;
      fits = λ S. swap-lt n u v S b.u-lt;
      gone = λ S. swap-v u v S h.other;
      hits = swap-hits E u v h;
      lighter = swap-lighter c n u v b.u-lt b.v-lt b.cheaper;
      same = fold-hits E u v h;
    })

pub rule4 : (c : ℕ → ℕ) (n : ℕ) (P : ℕ → Type 0) (E : ℕ → ℕ → Bool) (u v : ℕ) → Better c n P u v → OneIn (flip E) u v
    → (S : ℕ) → Least c n (Without v P) (flip (fold (flip E) u v)) S → Least c n P E S
rule4 c n P E u v b h S l =
    (mirror-least c n P E S).1 (rule3 c n P (flip E) u v b h S ((mirror-least c n (Without v P) (fold (flip E) u v) S).1 l))
