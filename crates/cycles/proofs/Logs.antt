-- The search of a component that also lists the flip-flops in the order in which their visits end: it makes the same visits. Assumes nothing.
use mathlib.Core.Path.{◌≡◌, refl, ap, ◌∙◌}
use mathlib.Core.Bool.{Bool, true, false}
use mathlib.Core.List.{List}
use Prim.Native.Nat.{ℕ, zero, suc}
use Rattle.masks.specs.Sets.{bit, pick, put, lowest}
use Rattle.graphs.specs.Components.{inside}
use Rattle.cycles.specs.Search.{Visits, finish, mark, along, targets, visit}
use Rattle.cycles.specs.Work.{VisitLog, begun, mark_l, along_l, targets_l, visit_l}

module _ (E : ℕ → ℕ → Bool) (n : ℕ) where
  along-same : (go : ℕ → VisitLog → VisitLog) (go' : ℕ → Visits → Visits) → ((w : ℕ) (s : VisitLog) → (go w s).visits ≡ go' w s.visits) → (going v w : ℕ) (s : VisitLog)
      → (along_l E n go going v w s).visits ≡ along E n go' going v w s.visits
  along-same go go' same going v w s = cases (E v w) (bit going w) (bit s.visits.over w)
    where
      cases : (x y z : Bool)
          → (pick x (pick y (mark_l v s) (pick z s (go w s))) s).visits
          ≡ pick x (pick y (mark v s.visits) (pick z s.visits (go' w s.visits))) s.visits
      cases true true z = refl
      cases true false true = refl
      cases true false false = same w s
      cases false y z = refl

  targets-same : (go : ℕ → VisitLog → VisitLog) (go' : ℕ → Visits → Visits) → ((w : ℕ) (s : VisitLog) → (go w s).visits ≡ go' w s.visits) → (going v m : ℕ) (s : VisitLog)
      → (targets_l E n go going v m s).visits ≡ targets E n go' going v m s.visits
  unfolding targets_l targets
  targets-same go go' same going v zero s = refl
  targets-same go go' same going v (suc m) s =
      along-same go go' same going v m (targets_l E n go going v m s) ∙ ap (along E n go' going v m) (targets-same go go' same going v m s)

  pub visit-same : (d going v : ℕ) (s : VisitLog) → (visit_l E n d going v s).visits ≡ visit E n d going v s.visits
  unfolding visit_l visit
  visit-same zero going v s = refl
  visit-same (suc d) going v s =
      ap (finish v) (targets-same (visit_l E n d (put going v)) (visit E n d (put going v)) (visit-same d (put going v)) (put going v) v n s)

-- the flip-flops of the component C in the order in which their visits end
unfoldable pub order_of : (ℕ → ℕ → Bool) → ℕ → ℕ → List ℕ
order_of E n C = (visit_l (inside E C) n n 0 (lowest n (bit C)) begun).order
