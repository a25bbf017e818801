-- The search of a component: it visits every member, B lies within the component, is not empty and meets every loop of it, the lowest flip-flop is not in
-- B, and every edge from outside B leads to a flip-flop whose visit ended earlier. Shown from what the search keeps true. Assumes nothing.
use mathlib.Core.Path.{◌≡◌, refl, sym, ap, subst}
use mathlib.Core.Logic.Iff
use mathlib.Core.Logic.{◌≢◌, ◌⊎◌, inl, inr, ⊎_elim, ◌↔◌}
use mathlib.Core.Bool.{Bool}
use mathlib.Core.List.{List, [], ◌∷◌}
use Prim.Native.Nat.{ℕ, zero, suc, ◌≤◌, ◌<◌, ◌^◌}
use native.Mathlib.Omega.{arith}
use native.Mathlib.Decide.{ℕ_discrete}
use lib.Count.{ones}
use lib.Dec.{T}
use lib.ListN.{length, get_or}
use Rattle.masks.specs.Sets.{bit, lowest}
use Rattle.masks.proofs.Tests.{T_true, T-no, T?, T_false}
use Rattle.masks.proofs.Lowest.{lowest-is}
use Rattle.graphs.specs.Graph.{Of, Differ, Walk, edge_to, step_to}
use Rattle.graphs.specs.Light.{left, Meets}
use Rattle.graphs.specs.Components.{every, Component, Lowest, inside}
use Rattle.graphs.proofs.Lists.{of_at, at_of, differ-at}
use Rattle.graphs.proofs.Walks.{source-lt, carry}
use Rattle.graphs.proofs.Loops.{Hits, meets-hits}
use Rattle.graphs.proofs.Components.{EdgesBelow, component-lowest, component-at, component-inside}
use Rattle.graphs.proofs.Lowest.{lowest-one}
use Rattle.masks.proofs.Those.{members-lt}
use Rattle.graphs.proofs.Parts.{inside-edge}
use Rattle.cycles.specs.Search.{searched, back_of}
use Rattle.cycles.proofs.Each.{ones-some}
use Rattle.cycles.specs.Work.{VisitLog, begun, visit_l, Later}
use Rattle.cycles.proofs.Logs.{visit-same, order_of}
use Rattle.cycles.proofs.Visits.{Did, did, reached, no-round, root-out}

-- ---- the list, from the first that ended on

later-from : (E : ℕ → ℕ → Bool) (B : ℕ) (xs : List ℕ)
    → ((i : ℕ) → i < length xs → (u : ℕ) → T (E u (get_or xs i 0)) → T (left B u) → (j : ℕ) × (i < j) × (j < length xs) × (get_or xs j 0 ≡ u))
    → Later E B xs
later-from E B [] h = tt
later-from E B (v ∷ vs) h = ((λ u e b. first (h 0 (omega arith) u e b)), later-from E B vs rest)
  where
    first : {u : ℕ} → (j : ℕ) × (0 < j) × (j < suc (length vs)) × (get_or (v ∷ vs) j 0 ≡ u) → Of u vs
    first {u} r = go r.0 r.1 r.2 r.3
      where
        go : (j : ℕ) → 0 < j → j < suc (length vs) → get_or (v ∷ vs) j 0 ≡ u → Of u vs
        go zero l k e = absurd (omega arith)
        go (suc j) l k e = subst (λ z. Of z vs) e (at_of vs j (omega arith))

    rest : (i : ℕ) → i < length vs → (u : ℕ) → T (E u (get_or vs i 0)) → T (left B u) → (j : ℕ) × (i < j) × (j < length vs) × (get_or vs j 0 ≡ u)
    rest i l u e b = go (h (suc i) (omega arith) u e b)
      where
        go : (j : ℕ) × (suc i < j) × (j < suc (length vs)) × (get_or (v ∷ vs) j 0 ≡ u) → (j : ℕ) × (i < j) × (j < length vs) × (get_or vs j 0 ≡ u)
        go r = at r.0 r.1 r.2 r.3
          where
            at : (j : ℕ) → suc i < j → j < suc (length vs) → get_or (v ∷ vs) j 0 ≡ u → (j : ℕ) × (i < j) × (j < length vs) × (get_or vs j 0 ≡ u)
            at zero p q e = absurd (omega arith)
            at (suc j) p q e = (j, omega arith, omega arith, e)

-- ---- of a component C of E, with edges between flip-flops below n

module _ {E : ℕ → ℕ → Bool} {n C : ℕ} (low : EdgesBelow E n) (comp : Component E C) where
  pub member-lt : (v : ℕ) → T (bit C v) → v < n
  member-lt v t = source-lt (λ a b e. (low a b e).0) ((component-at comp v t v).0 t).0

  pub lowest-holds : Lowest C (lowest n (bit C))
  lowest-holds =
      let l = component-lowest comp in
      let e : lowest n (bit C) ≡ l.0 =
      lowest-is n (bit C) l.0 (member-lt l.0 l.1.holds) (T_true (bit C l.0) l.1.holds)
      (λ w k. T_false (bit C w) (λ t. let z : l.0 ≤ w = l.1.least w t in omega arith)) in
      subst (Lowest C) (sym e) l.1

  inner-ends : (u w : ℕ) → T (inside E C u w) → T (bit C u) × T (bit C w)
  inner-ends u w e =
      let r = inside-edge E C u w e in
      (r.0, r.1)

  abbrev root : ℕ
  root = lowest n (bit C)

  abbrev final : VisitLog
  final = visit_l (inside E C) n n 0 root begun

  final-did : Did (inside E C) n (bit C) inner-ends member-lt 0 begun final × Of root final.order
  final-did = did (inside E C) n (bit C) inner-ends member-lt root lowest-holds.holds

  same_back : final.visits.back ≡ back_of E n C
  same_back = ap (λ s. s.back) (visit-same (inside E C) n n 0 root begun)

  order_is : final.order ≡ order_of E n C
  unfolding order_of
  order_is = refl

  -- the search visits every member of C, and nothing else
  final-of : (v : ℕ) → Of v final.order ↔ T (bit C v)
  final-of v = (
    final-did.0.inv.within v,
    λ t. reached (inside E C) n (bit C) inner-ends member-lt root lowest-holds.holds {K = every} final-did.1
        (component-inside comp root v lowest-holds.holds t),
  )

  pub search-visits : (v : ℕ) → T (bit (searched (inside E C) n (lowest n (bit C))).over v) ↔ T (bit C v)
  search-visits v =
      subst (λ z. T (bit z v) ↔ T (bit C v)) (ap (λ s. s.over) (visit-same (inside E C) n n 0 root begun))
      (Iff.trans (final-did.0.inv.listed v) (final-of v))

  -- each member of B is one of C
  pub back-within : (v : ℕ) → T (bit (back_of E n C) v) → T (bit C v)
  back-within v t = final-did.0.inv.marked v (subst (λ z. T (bit z v)) (sym same_back) t)

  pub back-lt : (v : ℕ) → T (bit (back_of E n C) v) → v < n
  back-lt v t = member-lt v (back-within v t)

  pub back_fits : back_of E n C < 2 ^ n
  back_fits = members-lt n (back_of E n C) back-lt

  -- B meets every loop of the component
  pub back-meets : Hits (inside E C) (back_of E n C)
  back-meets v p =
      no-round (inside E C) n (bit C) inner-ends member-lt root lowest-holds.holds v ((final-of v).1 (start p))
      (subst (λ z. Walk (inside E C) (left z) v v) (sym same_back) p)
    where
      start : {a b : ℕ} {K : ℕ → Bool} → Walk (inside E C) K a b → T (bit C a)
      start {a} {b} (edge_to k l e) = (inner-ends a b e).0
      start {a} (step_to {x = x} k e q) = (inner-ends a x e).0

  pub back-meets-loops : Meets (inside E C) (back_of E n C)
  back-meets-loops = (meets-hits (inside E C) (back_of E n C)).1 back-meets

  -- the lowest flip-flop is not in B, where no edge leads from it to itself
  pub back-lowest : (v : ℕ) → Lowest C v → (T (E v v) → ⊥) → T (bit (back_of E n C) v) → ⊥
  back-lowest v l no_self t =
      let e : v ≡ root = lowest-one C v root l lowest-holds in
      root-out (inside E C) n (bit C) inner-ends member-lt root lowest-holds.holds
      (λ s. no_self (subst (λ z. T (E z z)) (sym e) (inside-edge E C root root s).2))
      (subst (λ z. T (bit z root)) (sym same_back) (subst (λ z. T (bit (back_of E n C) z)) e t))

  -- B is not empty
  pub back-member : (v : ℕ) × T (bit (back_of E n C) v)
  back-member = ⊎_elim (λ r. (r.0, r.2)) (λ none. absurd (back-meets root (free none round))) (some n)
    where
      round : Walk (inside E C) every root root
      round = component-inside comp root root lowest-holds.holds lowest-holds.holds

      some : (m : ℕ) → ((v : ℕ) × (v < m) × T (bit (back_of E n C) v)) ⊎ ((v : ℕ) → v < m → T (left (back_of E n C) v))
      some zero = inr (λ v l. absurd (omega arith))
      some (suc m) = go (some m) (T? (bit (back_of E n C) m))
        where
          go : ((v : ℕ) × (v < m) × T (bit (back_of E n C) v)) ⊎ ((v : ℕ) → v < m → T (left (back_of E n C) v)) → Dec (T (bit (back_of E n C) m))
              → ((v : ℕ) × (v < suc m) × T (bit (back_of E n C) v)) ⊎ ((v : ℕ) → v < suc m → T (left (back_of E n C) v))
          go (inl r) d =
              let l : r.0 < m = r.1 in
              inl (r.0, omega arith, r.2)
          go (inr h) (yes t) = inl (m, omega arith, t)
          go (inr h) (no k) = inr (λ v l. at v l (ℕ_discrete v m))
            where
              at : (v : ℕ) → v < suc m → Dec (v ≡ m) → T (left (back_of E n C) v)
              at v l (yes e) = subst (λ z. T (left (back_of E n C) z)) (sym e) (T-no (bit (back_of E n C) m) k)
              at v l (no j) =
                  let j' : v ≢ m = j in
                  h v (omega arith)

      free : ((v : ℕ) → v < n → T (left (back_of E n C) v)) → {a b : ℕ} → Walk (inside E C) every a b → Walk (inside E C) (left (back_of E n C)) a b
      free none p =
          carry (λ u w k l e. (none u (member-lt u (inner-ends u w e).0), none w (member-lt w (inner-ends u w e).1), e)) p

  pub back_some : 1 ≤ ones (back_of E n C)
  back_some = ones-some (back_of E n C) back-member.0 back-member.1

  -- ---- the order in which visits end

  -- it has each member once
  pub order_of-member : (v : ℕ) → Of v (order_of E n C) ↔ T (bit C v)
  order_of-member v = subst (λ xs. Of v xs ↔ T (bit C v)) order_is (final-of v)

  pub order-differ : Differ (order_of E n C)
  order-differ = subst Differ order_is final-did.0.inv.differ

  -- an edge from outside B leads to one that ended earlier
  pub order-earlier : (i : ℕ) → i < length (order_of E n C) → T (left (back_of E n C) (get_or (order_of E n C) i 0)) → (w : ℕ)
      → T (inside E C (get_or (order_of E n C) i 0) w) → (j : ℕ) × (j < i) × (get_or (order_of E n C) j 0 ≡ w)
  unfolding order_of
  order-earlier i l b w e =
      final-did.0.inv.earlier i l (subst (λ z. T (left z (get_or final.order i 0))) (sym same_back) b) w e

  -- so, from its end: an edge from outside B comes from one that ended later
  pub order-later : (i : ℕ) → i < length (order_of E n C) → (u : ℕ) → T (inside E C u (get_or (order_of E n C) i 0)) → T (left (back_of E n C) u)
      → (j : ℕ) × (i < j) × (j < length (order_of E n C)) × (get_or (order_of E n C) j 0 ≡ u)
  order-later i l u e b =
      let xs : List ℕ = order_of E n C in
      let r = of_at u xs ((order_of-member u).1 (inner-ends u (get_or xs i 0) e).0) in
      let s = order-earlier r.0 r.1 (subst (λ z. T (left (back_of E n C) z)) (sym r.2) b) (get_or xs i 0)
      (subst (λ z. T (inside E C z (get_or xs i 0))) (sym r.2) e) in
      let k : r.0 < length xs = r.1 in
      let m : s.0 < r.0 = s.1 in
      let q : s.0 ≡ i = differ-at xs order-differ s.0 i (omega arith) l s.2 in
      (r.0, omega arith, r.1, r.2)

  pub order-sorted : Later (inside E C) (back_of E n C) (order_of E n C)
  order-sorted = later-from (inside E C) (back_of E n C) (order_of E n C) order-later
