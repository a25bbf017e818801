-- What the search keeps true while some are being visited: what the set of those whose visit is over and the list of them hold, that an edge from one of
-- them leads to another or to one being visited, and that an edge from one outside B leads to one whose visit ended earlier. So a walk outside B goes
-- back in the list, and none closes. Shown edge by edge and visit by visit. Assumes nothing.
use mathlib.Core.Path.{◌≡◌, refl, sym, ap, ◌∙◌, subst}
use mathlib.Core.Logic.{◌≢◌, ◌⊎◌, inl, inr, ⊎_elim, ◌↔◌}
use mathlib.Core.Bool.{Bool, true, false}
use mathlib.Core.List.{[], ◌∷◌, ◌++◌}
use Prim.Native.Nat.{ℕ, zero, suc, ◌+◌, ◌≤◌, ◌<◌}
use native.Mathlib.Omega.{arith}
use native.Mathlib.Decide.{ℕ_discrete, dec_lt}
use lib.Dec.{T, T_not}
use lib.ListN.{length, get_or, length-append, get_or-append}
use lib.Seq.{get_or-append_seam}
use Rattle.masks.specs.Sets.{bit, pick, put, weight}
use Rattle.masks.proofs.Tests.{T-no, T_false}
use Rattle.masks.proofs.Weights.{weight-new, count-le}
use Rattle.graphs.specs.Graph.{Of, Differ, Walk, edge_to, step_to}
use Rattle.graphs.specs.Light.{left}
use Rattle.graphs.proofs.Lists.{Of-left, Of-right, Of-cases, of_at, differ-at, differ-snoc}
use Rattle.masks.proofs.Bits.{not-zero}
use Rattle.masks.proofs.PutCut.{in-put, in-more, in-less}
use Rattle.cycles.specs.Work.{VisitLog, begun, finish_l, mark_l, along_l, targets_l, visit_l}

-- in a graph E whose edges are between flip-flops that pass a test, all below n
module _ (E : ℕ → ℕ → Bool) (n : ℕ) (P : ℕ → Bool) (ends : (u w : ℕ) → T (E u w) → T (P u) × T (P w)) (low : (v : ℕ) → T (P v) → v < n) where
  -- the flip-flop at the place i
  abbrev pub at : VisitLog → ℕ → ℕ
  at s i = get_or s.order i 0

  pub record Inv (going : ℕ) (s : VisitLog) : Type 0 where
    pub listed : (x : ℕ) → T (bit s.visits.over x) ↔ Of x s.order
    pub differ : Differ s.order
    pub within : (x : ℕ) → Of x s.order → T (P x)
    pub marked : (x : ℕ) → T (bit s.visits.back x) → T (P x)
    pub closed : (u w : ℕ) → Of u s.order → T (E u w) → Of w s.order ⊎ T (bit going w)
    pub earlier : (i : ℕ) → i < length s.order → T (left s.visits.back (at s i)) → (w : ℕ) → T (E (at s i) w) → (j : ℕ) × (j < i) × (at s j ≡ w)

  -- a part of the search: more visits end, more are in B, and none that is being visited ends
  pub record Grows (going : ℕ) (s t : VisitLog) : Type 0 where
    pub order : (x : ℕ) → Of x s.order → Of x t.order
    pub back : (x : ℕ) → T (bit s.visits.back x) → T (bit t.visits.back x)
    pub fresh : (x : ℕ) → T (bit going x) → Of x t.order → Of x s.order

  grows-refl : (going : ℕ) (s : VisitLog) → Grows going s s
  grows-refl going s = record { order = λ x h. h; back = λ x h. h; fresh = λ x o h. h }

  grows-trans : {going : ℕ} {s t r : VisitLog} → Grows going s t → Grows going t r → Grows going s r
  grows-trans g h =
      record { order = λ x k. h.order x (g.order x k); back = λ x k. h.back x (g.back x k); fresh = λ x o k. g.fresh x o (h.fresh x o k) }

  -- of those that are being visited, the visit of another puts none into B; and a step along an edge of v puts at most v
  abbrev pub Unmarked : ℕ → VisitLog → VisitLog → Type 0
  Unmarked going s t = (x : ℕ) → T (bit going x) → T (bit t.visits.back x) → T (bit s.visits.back x)

  abbrev Own : ℕ → ℕ → VisitLog → VisitLog → Type 0
  Own going v s t =
      (x : ℕ) → T (bit going x) → T (bit t.visits.back x) → T (bit s.visits.back x) ⊎ ((x ≡ v) × ((w : ℕ) × T (bit going w) × T (E v w)))

  pub record Did (going : ℕ) (s t : VisitLog) : Type 0 where
    pub inv : Inv going t
    pub grows : Grows going s t
    pub unmarked : Unmarked going s t

  -- the visit of a new flip-flop
  abbrev Good : ℕ → (ℕ → VisitLog → VisitLog) → Type 0
  Good going go =
      (w : ℕ) (s : VisitLog) → Inv going s → (T (bit going w) → ⊥) → (Of w s.order → ⊥) → T (P w) → Did going s (go w s) × Of w (go w s).order

  -- an edge of v was gone along
  abbrev Settled : ℕ → ℕ → ℕ → VisitLog → Type 0
  Settled going v w s = T (E v w) → Of w s.order ⊎ (T (bit going w) × T (bit s.visits.back v))

  settled_on : (going v w : ℕ) (s t : VisitLog) → Grows going s t → Settled going v w s → Settled going v w t
  settled_on going v w s t g f e = ⊎_elim (λ k. inl (g.order w k)) (λ k. inr (k.0, g.back v k.1)) (f e)

  left_less : (s t : ℕ) → ((x : ℕ) → T (bit s x) → T (bit t x)) → (x : ℕ) → T (left t x) → T (left s x)
  left_less s t h x l = T-no (bit s x) (λ k. T_not (bit t x) l (h x k))

  mark-inv : (going v : ℕ) (s : VisitLog) → T (P v) → Inv going s → Inv going (mark_l v s)
  mark-inv going v s pv i =
      record {
        listed = i.listed;
        differ = i.differ;
        within = i.within;
        marked = λ x h. ⊎_elim (λ q. subst (λ z. T (P z)) (sym q) pv) (i.marked x) (in-less s.visits.back v x h);
        closed = i.closed;
        earlier = λ j l b. i.earlier j l (left_less s.visits.back (put s.visits.back v) (in-more s.visits.back v) (at s j) b);
      }

  -- more are being visited
  wider : (going v : ℕ) (s : VisitLog) → Inv going s → Inv (put going v) s
  wider going v s i =
      record {
        listed = i.listed;
        differ = i.differ;
        within = i.within;
        marked = i.marked;
        closed = λ u w h e. ⊎_elim (λ k. inl k) (λ k. inr (in-more going v w k)) (i.closed u w h e);
        earlier = i.earlier;
      }

  -- the visit of v ends: its edges lead to those that ended before, or to ones being visited, and then v is in B
  module _ (going v : ℕ) (s : VisitLog) (i : Inv (put going v) s) (new : Of v s.order → ⊥) (pv : T (P v)) (out : (w : ℕ) → Settled (put going v) v w s) where
    there : (x : ℕ) → Of x s.order → Of x (s.order ++ (v ∷ []))
    there x h = Of-left x s.order (v ∷ []) h

    self : Of v (s.order ++ (v ∷ []))
    self = Of-right v s.order (v ∷ []) (inl refl)

    finish-listed : (x : ℕ) → T (bit (put s.visits.over v) x) ↔ Of x (s.order ++ (v ∷ []))
    finish-listed x = (forth, back)
      where
        forth : T (bit (put s.visits.over v) x) → Of x (s.order ++ (v ∷ []))
        forth t =
            ⊎_elim (λ q. subst (λ z. Of z (s.order ++ (v ∷ []))) (sym q) self) (λ k. there x ((i.listed x).0 k)) (in-less s.visits.over v x t)

        last : x ≡ v → T (bit (put s.visits.over v) x)
        last q = subst (λ z. T (bit (put s.visits.over v) z)) (sym q) (in-put s.visits.over v)

        back : Of x (s.order ++ (v ∷ [])) → T (bit (put s.visits.over v) x)
        back h =
            ⊎_elim (λ k. in-more s.visits.over v x ((i.listed x).1 k)) (⊎_elim last (λ k. absurd k)) (Of-cases x s.order (v ∷ []) h)

    finish-closed : (u w : ℕ) → Of u (s.order ++ (v ∷ [])) → T (E u w) → Of w (s.order ++ (v ∷ [])) ⊎ T (bit going w)
    finish-closed u w h e =
        ⊎_elim (λ k. settle (i.closed u w k e))
        (⊎_elim (λ q. ⊎_elim (λ k. inl (there w k)) (λ k. settle (inr k.0)) (out w (subst (λ z. T (E z w)) q e))) (λ k. absurd k))
        (Of-cases u s.order (v ∷ []) h)
      where
        settle : Of w s.order ⊎ T (bit (put going v) w) → Of w (s.order ++ (v ∷ [])) ⊎ T (bit going w)
        settle (inl k) = inl (there w k)
        settle (inr k) = ⊎_elim (λ q. inl (subst (λ z. Of z (s.order ++ (v ∷ []))) (sym q) self)) (λ q. inr q) (in-less going v w k)

    -- the places before the new one hold what they held
    old : (j : ℕ) → j < length s.order → get_or (s.order ++ (v ∷ [])) j 0 ≡ at s j
    old j l = get_or-append s.order (v ∷ []) 0 j l

    finish-earlier : (j : ℕ) → j < length (s.order ++ (v ∷ [])) → T (left s.visits.back (get_or (s.order ++ (v ∷ [])) j 0)) → (w : ℕ)
        → T (E (get_or (s.order ++ (v ∷ [])) j 0) w) → (m : ℕ) × (m < j) × (get_or (s.order ++ (v ∷ [])) m 0 ≡ w)
    finish-earlier j l b w e = go (dec_lt j (length s.order))
      where
        go : Dec (j < length s.order) → (m : ℕ) × (m < j) × (get_or (s.order ++ (v ∷ [])) m 0 ≡ w)
        go (yes k) =
            let r = i.earlier j k (subst (λ z. T (left s.visits.back z)) (old j k) b) w (subst (λ z. T (E z w)) (old j k) e) in
            let m : r.0 < j = r.1 in
            (r.0, r.1, old r.0 (omega arith) ∙ r.2)
        go (no k) =
            let k' : ¬ (j < length s.order) = k in
            let q : j ≡ length s.order = omega (arith, length-append s.order (v ∷ [])) in
            let is : get_or (s.order ++ (v ∷ [])) j 0 ≡ v = ap (λ z. get_or (s.order ++ (v ∷ [])) z 0) q ∙ get_or-append_seam s.order v [] 0 in
            let h : Of w s.order =
            ⊎_elim (λ a. a) (λ a. absurd (T_not (bit s.visits.back v) (subst (λ z. T (left s.visits.back z)) is b) a.1))
            (out w (subst (λ z. T (E z w)) is e)) in
            let r = of_at w s.order h in
            let m : r.0 < length s.order = r.1 in
            (r.0, omega arith, old r.0 m ∙ r.2)

    finish-inv : Inv going (finish_l v s)
    finish-inv =
        record {
          listed = finish-listed;
          differ = differ-snoc s.order v i.differ new;
          within = λ x h. ⊎_elim (i.within x) (⊎_elim (λ q. subst (λ z. T (P z)) (sym q) pv) (λ k. absurd k)) (Of-cases x s.order (v ∷ []) h);
          marked = i.marked;
          closed = finish-closed;
          earlier = finish-earlier;
        }

  -- what going along edges of v does
  record Went (going v : ℕ) (s t : VisitLog) : Type 0 where
    inv : Inv going t
    grows : Grows going s t
    own : Own going v s t

  went-none : (going v : ℕ) (s : VisitLog) → Inv going s → Went going v s s
  went-none going v s i = record { inv = i; grows = grows-refl going s; own = λ x o h. inl h }

  went-trans : {going v : ℕ} {s t r : VisitLog} → Went going v s t → Went going v t r → Went going v s r
  went-trans f g =
      record {
        inv = g.inv;
        grows = grows-trans f.grows g.grows;
        own = λ x o h. ⊎_elim (λ k. f.own x o k) (λ k. inr k) (g.own x o h);
      }

  along-does : (going : ℕ) (go : ℕ → VisitLog → VisitLog) → Good going go → (v w : ℕ) (s : VisitLog) → Inv going s
      → Went going v s (along_l E n go going v w s) × Settled going v w (along_l E n go going v w s)
  along-does going go good v w s i = cases (E v w) refl (bit going w) refl (bit s.visits.over w) refl
    where
      cases : (x : Bool) → E v w ≡ x → (y : Bool) → bit going w ≡ y → (z : Bool) → bit s.visits.over w ≡ z
          → Went going v s (pick x (pick y (mark_l v s) (pick z s (go w s))) s)
          × (T (E v w) → Of w (pick x (pick y (mark_l v s) (pick z s (go w s))) s).order
          ⊎ (T (bit going w) × T (bit (pick x (pick y (mark_l v s) (pick z s (go w s))) s).visits.back v)))
      cases false e y f z g = (went-none going v s i, λ t. absurd (subst T e t))
      cases true e true f z g = (
        record {
          inv = mark-inv going v s (ends v w (subst T (sym e) tt)).0 i;
          grows = record { order = λ x h. h; back = λ x. in-more s.visits.back v x; fresh = λ x o h. h };
          own = λ x o h. ⊎_elim (λ q. inr (q, (w, subst T (sym f) tt, subst T (sym e) tt))) (λ k. inl k) (in-less s.visits.back v x h);
        },
        λ t. inr (subst T (sym f) tt, in-put s.visits.back v),
      )
      cases true e false f true g = (went-none going v s i, λ t. inl ((i.listed w).0 (subst T (sym g) tt)))
      cases true e false f false g =
          let r = good w s i (λ h. subst T f h) (λ h. subst T g ((i.listed w).1 h)) (ends v w (subst T (sym e) tt)).1 in
          (record { inv = r.0.inv; grows = r.0.grows; own = λ x o h. inl (r.0.unmarked x o h) }, λ t. inl r.1)

  targets-does : (going : ℕ) (go : ℕ → VisitLog → VisitLog) → Good going go → (v : ℕ) (s : VisitLog) → Inv going s → (m : ℕ)
      → Went going v s (targets_l E n go going v m s) × ((w : ℕ) → w < m → Settled going v w (targets_l E n go going v m s))
  unfolding targets_l
  targets-does going go good v s i zero = (went-none going v s i, λ w k. absurd (omega arith))
  targets-does going go good v s i (suc m) = more (targets-does going go good v s i m)
    where
      t : VisitLog
      t = targets_l E n go going v m s

      more : Went going v s t × ((w : ℕ) → w < m → Settled going v w t)
          → Went going v s (along_l E n go going v m t) × ((w : ℕ) → w < suc m → Settled going v w (along_l E n go going v m t))
      more r =
          let a = along-does going go good v m t r.0.inv in
          (went-trans r.0 a.0, λ w k. last w k (ℕ_discrete w m) a.1 a.0.grows)
        where
          last : (w : ℕ) → w < suc m → Dec (w ≡ m) → Settled going v m (along_l E n go going v m t) → Grows going t (along_l E n go going v m t)
              → Settled going v w (along_l E n go going v m t)
          last w k (yes e) st g = subst (λ z. Settled going v z (along_l E n go going v m t)) (sym e) st
          last w k (no j) st g =
              let j' : w ≢ m = j in
              settled_on going v w t (along_l E n go going v m t) g (r.1 w (omega arith))

  -- the targets of v, and then its end
  module _ (going v : ℕ) (go : ℕ → VisitLog → VisitLog) (good : Good (put going v) go) (s : VisitLog) (i : Inv going s) (no-going : T (bit going v) → ⊥)
      (new : Of v s.order → ⊥) (pv : T (P v)) where
    went : Went (put going v) v s (targets_l E n go (put going v) v n s)
    went = (targets-does (put going v) go good v s (wider going v s i) n).0

    ended : Did going s (finish_l v (targets_l E n go (put going v) v n s))
    ended =
        let t : VisitLog = targets_l E n go (put going v) v n s in
        record {
          inv =
              finish-inv going v t went.inv (λ h. new (went.grows.fresh v (in-put going v) h)) pv
              (λ w e. (targets-does (put going v) go good v s (wider going v s i) n).1 w (low w (ends v w e).1) e);
          grows =
              record {
                order = λ x h. Of-left x t.order (v ∷ []) (went.grows.order x h);
                back = went.grows.back;
                fresh = λ x o h.
                    ⊎_elim (λ k. went.grows.fresh x (in-more going v x o) k)
                    (⊎_elim (λ q. absurd (no-going (subst (λ z. T (bit going z)) q o))) (λ k. absurd k)) (Of-cases x t.order (v ∷ []) h);
              };
          unmarked = λ x o h.
              ⊎_elim (λ k. k) (λ k. absurd (no-going (subst (λ z. T (bit going z)) k.0 o))) (went.own x (in-more going v x o) h);
        }

    -- v itself is in B only by an edge to one that is being visited
    ended-own : T (bit (finish_l v (targets_l E n go (put going v) v n s)).visits.back v)
        → T (bit s.visits.back v) ⊎ ((w : ℕ) × T (bit (put going v) w) × T (E v w))
    ended-own h = ⊎_elim (λ k. inl k) (λ k. inr k.1) (went.own v (in-put going v) h)

  fewer : (going v : ℕ) → T (P v) → (T (bit going v) → ⊥) → weight (λ x. 1) n (put going v) ≡ weight (λ x. 1) n going + 1
  fewer going v pv ng = weight-new (λ x. 1) n going v (low v pv) (T_false (bit going v) ng)

  -- one visit inside another for each of the n is enough
  visit-good : (d going : ℕ) → n ≤ d + weight (λ x. 1) n going → Good going (visit_l E n d going)
  unfolding visit_l
  visit-good zero going l v s i ng new pv = absurd (omega (arith, fewer going v pv ng, count-le n (put going v)))
  visit-good (suc d) going l v s i ng new pv =
      let good : Good (put going v) (visit_l E n d (put going v)) = visit-good d (put going v) (omega (arith, fewer going v pv ng)) in (
        ended going v (visit_l E n d (put going v)) good s i ng new pv,
        Of-right v (targets_l E n (visit_l E n d (put going v)) (put going v) v n s).order (v ∷ []) (inl refl),
      )

  begun-inv : Inv 0 begun
  begun-inv =
      record {
        listed = λ x. ((λ t. absurd (not-zero x t)), λ h. absurd h);
        differ = tt;
        within = λ x h. absurd h;
        marked = λ x h. absurd (not-zero x h);
        closed = λ u w h e. absurd h;
        earlier = λ i l b w e. absurd (omega arith);
      }

  -- the whole search from r
  module _ (r : ℕ) (pr : T (P r)) where
    abbrev pub end : VisitLog
    end = visit_l E n n 0 r begun

    pub did : Did 0 begun end × Of r end.order
    did = visit-good n 0 (omega arith) r begun begun-inv (not-zero r) (λ h. h) pr

    pub reached : {K : ℕ → Bool} {a b : ℕ} → Of a end.order → Walk E K a b → Of b end.order
    reached {K} {a} {b} h (edge_to k l e) = ⊎_elim (λ q. q) (λ q. absurd (not-zero b q)) (did.0.inv.closed a b h e)
    reached {K} {a} {b} h (step_to {x = x} k e w) =
        reached {K = K} (⊎_elim (λ q. q) (λ q. absurd (not-zero x q)) (did.0.inv.closed a x h e)) w

    -- a walk outside B leads to one that ended earlier
    down : {a b : ℕ} → (i : ℕ) → i < length end.order → at end i ≡ a → Walk E (left end.visits.back) a b → (j : ℕ) × (j < i) × (at end j ≡ b)
    down {a} {b} i l q (edge_to k m e) =
        did.0.inv.earlier i l (subst (λ z. T (left end.visits.back z)) (sym q) k) b (subst (λ z. T (E z b)) (sym q) e)
    down {a} {b} i l q (step_to {x = x} k e w) =
        let s = did.0.inv.earlier i l (subst (λ z. T (left end.visits.back z)) (sym q) k) x (subst (λ z. T (E z x)) (sym q) e) in
        let m : s.0 < i = s.1 in
        let t = down s.0 (omega arith) s.2 w in
        let o : t.0 < s.0 = t.1 in
        (t.0, omega arith, t.2)

    pub no-round : (v : ℕ) → Of v end.order → Walk E (left end.visits.back) v v → ⊥
    no-round v h w =
        let s = of_at v end.order h in
        let l : s.0 < length end.order = s.1 in
        let t = down s.0 l s.2 w in
        let m : t.0 < s.0 = t.1 in
        let same : t.0 ≡ s.0 = differ-at end.order did.0.inv.differ t.0 s.0 (omega arith) l (t.2 ∙ sym s.2) in
        omega arith

    -- with no edge from r to itself, r is not in B
    pub root-out : (T (E r r) → ⊥) → T (bit end.visits.back r) → ⊥
    unfolding visit_l
    root-out no_self h = go n refl (low r pr) h
      where
        go : (m : ℕ) → m ≡ n → r < m → T (bit (visit_l E n m 0 r begun).visits.back r) → ⊥
        go zero q l h = omega arith
        go (suc d) q l h =
            let good : Good (put 0 r) (visit_l E n d (put 0 r)) = visit-good d (put 0 r) (omega (arith, fewer 0 r pr (not-zero r))) in
            ⊎_elim (not-zero r) (λ k. ⊎_elim (λ e. no_self (subst (λ z. T (E r z)) e k.2)) (not-zero k.0) (in-less 0 r k.0 k.1))
            (ended-own 0 r (visit_l E n d (put 0 r)) good begun begun-inv (not-zero r) (λ z. z) pr h)
