-- The components of a graph: found from who reaches whom, for each flip-flop that is the lowest of those that it reaches and is reached by; there is one
-- list of them; and the loops and the lightest set of a graph are those of its components. Assumes nothing.
use mathlib.Core.Path.{◌≡◌, refl, sym, subst}
use mathlib.Core.Logic.Iff
use mathlib.Core.Logic.{◌≢◌, ◌⊎◌, inl, inr, ⊎_elim, ◌↔◌}
use mathlib.Core.Bool.{Bool, true, false, ◌&&◌}
use mathlib.Core.List.{List, [], ◌∷◌, map}
use Prim.Native.Nat.{ℕ, zero, suc, ◌+◌, ◌≤◌, ◌<◌}
use native.Mathlib.Omega.{arith}
use native.Mathlib.Decide.{ℕ_discrete, dec_lt}
use lib.Dec.{T, eqb, eqb→eq}
use lib.ListN.{length}
use Rattle.masks.specs.Sets.{bit, those}
use Rattle.masks.proofs.Tests.{T_and, and_T}
use Rattle.graphs.specs.Graph.{edge, plain, Of, Walk}
use Rattle.graphs.specs.Light.{Meets, Lightest}
use Rattle.graphs.specs.Coming.{around, leads, add, leading}
use Rattle.graphs.specs.Components.{every, Component, Lowest, Ascending, Components, inside}
use Rattle.masks.proofs.Bits.{same-members}
use Rattle.masks.proofs.Those.{those-iff, those-none}
use Rattle.graphs.proofs.Lowest.{lowest-of, lowest-one, ascending-cons, ascending-rest, ascending-all, ascending-unique}
use Rattle.graphs.proofs.Walks.{source-lt, target-lt, join, widen}
use Rattle.graphs.proofs.Loops.{RowsFit, meets-hits, edge-from, edge-to-lt}
use Rattle.graphs.proofs.Lightest.{least_iff}
use Rattle.graphs.proofs.Reach.{arc, closure, edge-reaches, walk?}
use Rattle.graphs.proofs.Parts.{Within, Apart, AllApart, joined, Parted, stay, parts-hits, parts-least, bests-map}

-- ---- one component

-- a walk, whatever was kept
anyhow : {E : ℕ → ℕ → Bool} {K : ℕ → Bool} {a b : ℕ} → Walk E K a b → Walk E every a b
anyhow p = widen (λ x k. tt) (λ a b e. e) p

-- every edge is between flip-flops below n
abbrev pub EdgesBelow : (ℕ → ℕ → Bool) → ℕ → Type 0
EdgesBelow E n = (u w : ℕ) → T (E u w) → (u < n) × (w < n)

pub component-lowest : {E : ℕ → ℕ → Bool} {C : ℕ} → Component E C → (v : ℕ) × Lowest C v
component-lowest {E} {C} p = lowest-of C p.member ((p.exact p.member).1 (p.on_loop, p.on_loop))

-- any of its members will do
pub component-at : {E : ℕ → ℕ → Bool} {C : ℕ} → Component E C → (v : ℕ) → T (bit C v) → (w : ℕ) → T (bit C w) ↔ (Walk E every v w × Walk E every w v)
component-at {E} {C} p v t w =
    let m = (p.exact v).0 t in (
      (λ s. let q = (p.exact w).0 s in (join m.1 q.0, join q.1 m.0)),
      λ q. (p.exact w).1 (join m.0 q.0, join q.1 m.1),
    )

-- its members reach each other inside it
pub component-inside : {E : ℕ → ℕ → Bool} {C : ℕ} → Component E C → (v w : ℕ) → T (bit C v) → T (bit C w) → Walk (inside E C) every v w
component-inside {E} {C} p v w s t =
    let r = (component-at p v s w).0 t in
    stay E C every v w s t (λ x f g. (component-at p v s x).1 (f, join g r.1)) r.0

-- two that share a flip-flop are one
pub component-one : {E : ℕ → ℕ → Bool} {C D : ℕ} → Component E C → Component E D → (v : ℕ) → T (bit C v) → T (bit D v) → C ≡ D
component-one {E} {C} {D} p q v s t = same-members C D (λ w. Iff.trans (component-at p v s w) (Iff.symm (component-at q v t w)))

-- ---- the sets that a decision of who reaches whom gives

-- the components of the graph as lent
unfoldable pub components_of : List ℕ → List ℕ
components_of rows = let reached : List ℕ = closure (length rows) (plain rows) in leading (length rows) (arc reached) (length rows) 0

add-cases : (x : Bool) (D : ℕ) (Cs : List ℕ) (C : ℕ) → Of C (add x D Cs) → (T x × (C ≡ D)) ⊎ Of C Cs
add-cases true D Cs C (inl e) = inl (tt, e)
add-cases true D Cs C (inr m) = inr m
add-cases false D Cs C m = inr m

add-first : (x : Bool) (D : ℕ) (Cs : List ℕ) → T x → Of D (add x D Cs)
add-first true D Cs t = inl refl
add-first false D Cs t = absurd t

add-later : (x : Bool) (D : ℕ) (Cs : List ℕ) (C : ℕ) → Of C Cs → Of C (add x D Cs)
add-later true D Cs C m = inr m
add-later false D Cs C m = m

module _ (n : ℕ) (reach : ℕ → ℕ → Bool) where
  pub leads-iff : (v : ℕ) → T (leads n reach v) ↔ Lowest (around n reach v) v
  unfolding leads
  leads-iff v = (forth, back)
    where
      C : ℕ
      C = around n reach v

      forth : T (bit C v && eqb (those v (bit C)) 0) → Lowest C v
      forth t =
          let r = T_and (bit C v) (eqb (those v (bit C)) 0) t in
          record { holds = r.0; least = λ w h. above w h (dec_lt w v) (eqb→eq (those v (bit C)) 0 r.1) }
        where
          above : (w : ℕ) → T (bit C w) → Dec (w < v) → those v (bit C) ≡ 0 → v ≤ w
          above w h (yes l) e = absurd ((those-none v (bit C)).0 e w l h)
          above w h (no k) e =
              let k' : ¬ (w < v) = k in
              omega arith

      back : Lowest C v → T (bit C v && eqb (those v (bit C)) 0)
      back h =
          let none : those v (bit C) ≡ 0 = (those-none v (bit C)).1 (λ w l t. let z : v ≤ w = h.least w t in omega arith) in
          and_T (bit C v) (eqb (those v (bit C)) 0) h.holds (rw none tt)

  -- the members of the list
  pub leading-of : (k v C : ℕ) → Of C (leading n reach k v) → (u : ℕ) × (v ≤ u) × T (leads n reach u) × (C ≡ around n reach u)
  unfolding leading
  leading-of zero v C m = absurd m
  leading-of (suc k) v C m =
      ⊎_elim (λ h. (v, omega arith, h.0, h.1)) (λ h. let r = leading-of k (suc v) C h in (r.0, omega (arith, r.1), r.2, r.3))
      (add-cases (leads n reach v) (around n reach v) (leading n reach k (suc v)) C m)

  pub of-leading : (k v u : ℕ) → v ≤ u → u < v + k → T (leads n reach u) → Of (around n reach u) (leading n reach k v)
  unfolding leading
  of-leading zero v u l j t = absurd (omega arith)
  of-leading (suc k) v u l j t = go (ℕ_discrete u v) (λ i. of-leading k (suc v) u i (omega arith) t)
    where
      go : Dec (u ≡ v) → (v < u → Of (around n reach u) (leading n reach k (suc v)))
          → Of (around n reach u) (add (leads n reach v) (around n reach v) (leading n reach k (suc v)))
      go (yes e) ih =
          rw e (add-first (leads n reach v) (around n reach v) (leading n reach k (suc v)) (subst (λ z. T (leads n reach z)) e t))
      go (no k') ih =
          let ne : u ≢ v = k' in
          add-later (leads n reach v) (around n reach v) (leading n reach k (suc v)) (around n reach u) (ih (omega arith))

  pub leading-ascending : (k v : ℕ) → Ascending (leading n reach k v)
  unfolding leading
  leading-ascending zero v = tt
  leading-ascending (suc k) v = go (leads n reach v) refl (leading-ascending k (suc v))
    where
      rest : List ℕ
      rest = leading n reach k (suc v)

      go : (x : Bool) → leads n reach v ≡ x → Ascending rest → Ascending (add x (around n reach v) rest)
      go false e a = a
      go true e a = ascending-cons (around n reach v) rest above a
        where
          above : (D : ℕ) → Of D rest → (a b : ℕ) → Lowest (around n reach v) a → Lowest D b → a < b
          above D m a b p q =
              let r = leading-of k (suc v) D m in
              let f : a ≡ v = lowest-one (around n reach v) a v p ((leads-iff v).0 (rw e tt)) in
              let g : b ≡ r.0 = lowest-one D b r.0 q (subst (λ z. Lowest z r.0) (sym r.3) ((leads-iff r.0).0 r.2)) in
              omega (arith, r.1)

-- ---- where the decision is right, they are the components

module _ (E : ℕ → ℕ → Bool) (n : ℕ) (low : EdgesBelow E n) (reach : ℕ → ℕ → Bool) (right : (a b : ℕ) → T (reach a b) ↔ Walk E every a b) where
  pub around-exact : (v w : ℕ) → T (bit (around n reach v) w) ↔ (Walk E every v w × Walk E every w v)
  unfolding around
  around-exact v w = Iff.trans (those-iff n (λ x. reach v x && reach x v) w) (forth, back)
    where
      forth : (w < n) × T (reach v w && reach w v) → Walk E every v w × Walk E every w v
      forth h =
          let r = T_and (reach v w) (reach w v) h.1 in
          ((right v w).0 r.0, (right w v).0 r.1)

      back : Walk E every v w × Walk E every w v → (w < n) × T (reach v w && reach w v)
      back h = (target-lt (λ a b e. (low a b e).1) h.0, and_T (reach v w) (reach w v) ((right v w).1 h.0) ((right w v).1 h.1))

  pub around-component : (v : ℕ) → Walk E every v v → Component E (around n reach v)
  around-component v p = record { member = v; on_loop = p; exact = around-exact v }

  pub leading_components : Components E (leading n reach n 0)
  leading_components = record { all = λ C. (forth C, back C); ascending = leading-ascending n reach n 0 }
    where
      forth : (C : ℕ) → Of C (leading n reach n 0) → Component E C
      forth C m =
          let r = leading-of n reach n 0 C m in
          rw r.3 (around-component r.0 ((around-exact r.0 r.0).0 ((leads-iff n reach r.0).0 r.2).holds).0)

      back : (C : ℕ) → Component E C → Of C (leading n reach n 0)
      back C p =
          let l = component-lowest p in
          let v : ℕ = l.0 in
          let on : Walk E every v v = ((component-at p v l.1.holds v).0 l.1.holds).0 in
          let e : C ≡ around n reach v = component-one p (around-component v on) v l.1.holds ((around-exact v v).1 (on, on)) in
          rw e
          (of-leading n reach n 0 v (omega arith) (omega (arith, source-lt (λ a b h. (low a b h).0) on))
          ((leads-iff n reach v).1 (subst (λ z. Lowest z v) e l.1)))

pub edges-below : (rows : List ℕ) → RowsFit rows → EdgesBelow (edge rows) (length rows)
edges-below rows fit u w t = (edge-from rows u w t, edge-to-lt rows fit u w t)

pub components-found : (rows : List ℕ) → RowsFit rows → Components (edge rows) (components_of rows)
unfolding components_of
components-found rows fit =
    leading_components (edge rows) (length rows) (edges-below rows fit) (arc (closure (length rows) (plain rows))) (edge-reaches rows)

-- in any graph whose edges are below n, each flip-flop on a closed walk is in a component

told : {A : Type 0} → Dec A → Bool
told (yes a) = true
told (no k) = false

told-iff : {A : Type 0} (d : Dec A) → T (told d) ↔ A
unfolding told
told-iff (yes a) = ((λ t. a), λ t. tt)
told-iff (no k) = ((λ t. absurd t), k)

pub component-of : (E : ℕ → ℕ → Bool) (n : ℕ) → EdgesBelow E n → (v : ℕ) → Walk E every v v → (C : ℕ) × Component E C × T (bit C v)
component-of E n low v p =
    (around n reach v, around-component E n low reach right v p, (around-exact E n low reach right v v).1 (p, p))
  where
    reach : ℕ → ℕ → Bool
    reach a b = told (walk? E n (λ u w e. (low u w e).0) a b)

    right : (a b : ℕ) → T (reach a b) ↔ Walk E every a b
    right a b = told-iff (walk? E n (λ u w e. (low u w e).0) a b)

-- ---- there is one list of them

pub components-unique : {E : ℕ → ℕ → Bool} {Cs Ds : List ℕ} → Components E Cs → Components E Ds → Cs ≡ Ds
components-unique {E} {Cs} {Ds} p q =
    ascending-unique Cs Ds (λ C m. component-lowest ((p.all C).0 m)) p.ascending q.ascending (λ C. Iff.trans (p.all C) (Iff.symm (q.all C)))

-- ---- a graph goes by its components

module _ {E : ℕ → ℕ → Bool} {n : ℕ} {Cs : List ℕ} (comps : Components E Cs) (low : EdgesBelow E n) where
  pub components-parted : Parted E Cs
  components-parted = record { apart = all_apart Cs (λ C m. (comps.all C).0 m) comps.ascending; covers = covers }
    where
      all_apart : (Ds : List ℕ) → ((C : ℕ) → Of C Ds → Component E C) → Ascending Ds → AllApart Ds
      all_apart [] h a = tt
      all_apart (C ∷ Ds) h a = (apart, all_apart Ds (λ D m. h D (inr m)) (ascending-rest C Ds a))
        where
          apart : (D : ℕ) → Of D Ds → Apart C D
          apart D m v s t =
              let l = component-lowest (h C (inl refl)) in
              let e : C ≡ D = component-one (h C (inl refl)) (h D (inr m)) v s t in
              let above = ascending-all C Ds (λ B k. component-lowest (h B (inr k))) a D m in
              omega (arith, above l.0 l.0 l.1 (subst (λ x. Lowest x l.0) e l.1))

      covers : (K : ℕ → Bool) (v : ℕ) → Walk E K v v → (C : ℕ) × Of C Cs × Walk (inside E C) K v v
      covers K v p =
          let r = component-of E n low v (anyhow p) in
          (r.0, (comps.all r.0).1 r.1, stay E r.0 K v v r.2 r.2 (λ x f g. (component-at r.1 v r.2 x).1 (anyhow f, anyhow g)) p)

  pub meets-parts : (S : ℕ) → Meets E S ↔ ((C : ℕ) → Of C Cs → Meets (inside E C) S)
  meets-parts S =
      Iff.trans (meets-hits E S)
      (Iff.trans (parts-hits E Cs components-parted S)
      ((λ h C m. (meets-hits (inside E C) S).1 (h C m)), λ h C m. (meets-hits (inside E C) S).0 (h C m)))

  pub lightest-parts : {c : ℕ → ℕ} (f : ℕ → ℕ) → ((C : ℕ) → Of C Cs → Lightest c n (Within C) (inside E C) (f C))
      → Lightest c n (λ R. Unit {0}) E (joined (map f Cs))
  lightest-parts {c} f h =
      (least_iff c n (λ R. Unit {0}) E (joined (map f Cs))).1
      (parts-least c n E Cs (map f Cs) components-parted
      (bests-map c n E f Cs (λ C m. (least_iff c n (Within C) (inside E C) (f C)).0 (h C m))))
