-- The whole search of a component by the code: it begins at the lowest member with nothing visited, and what it ends with is B and the order of the
-- definition. Assumes nothing.
use mathlib.Core.Path.{◌≡◌, sym, ap, ◌∙◌, subst}
use mathlib.Core.Bool.{Bool}
use Prim.Native.Nat.{ℕ}
use native.Mathlib.Omega.{arith}
use mathlib.Core.List.{[]}
use lib.ListN.{length}
use Rattle.masks.specs.Sets.{bit, lowest, number}
use Rattle.masks.proofs.Bits.{zero-member}
use Rattle.masks.proofs.Weights.{weight-none, count-le}
use Rattle.graphs.specs.Graph.{edge}
use Rattle.graphs.specs.Components.{Component, Lowest, inside}
use Rattle.graphs.proofs.Components.{EdgesBelow}
use Rattle.graphs.proofs.Lowest.{lowest-one}
use Rattle.graphs.proofs.InOrder.{sound-below}
use Rattle.cycles.specs.Search.{back_of}
use Rattle.cycles.specs.Work.{VisitLog, begun, visit_l, log_of, Visitable, VisitDone, Sorted, Searched}
use Rattle.cycles.specs.declared.search.Search.{Search}
use Rattle.cycles.proofs.Logs.{visit-same, order_of}
use Rattle.cycles.proofs.Searches.{member-lt, lowest-holds, order_of-member, order-differ, order-sorted}

-- nothing was visited yet
pub record Fresh (s : Search) : Type 0 where
  pub over : number s.over ≡ 0
  pub back : number s.order.back ≡ 0
  pub none : s.order.flops.items ≡ []

module _ (s : Search) (comp : Component (edge s.part.graph.rows.now) (number s.part.members)) where
  abbrev E : ℕ → ℕ → Bool
  E = edge s.part.graph.rows.now

  abbrev n : ℕ
  n = length s.part.graph.rows.now

  abbrev C : ℕ
  C = number s.part.members

  low : EdgesBelow E n
  low = sound-below s.part.graph.rows.now s.part.graph.sound

  module _ (r going : ℕ) (led : Lowest C r) (none : going ≡ 0) (fresh : Fresh s) where
    -- r is the lowest flip-flop of the definition
    root_is : r ≡ lowest n (bit C)
    root_is = lowest-one C r (lowest n (bit C)) led (lowest-holds low comp)

    pub start-may : Visitable r going s
    start-may =
        record {
          inner = member-lt low comp;
          member = led.holds;
          new = zero-member going r none;
          fresh = zero-member (number s.over) r fresh.over;
          held =
              record {
                counted = rw (fresh.none, fresh.over) (sym (weight-none (λ v. 1) n));
                apart = λ x t. absurd (zero-member going x none t);
              };
        }

    module _ (end : Search) (did : VisitDone r going s end) where
      final : VisitLog
      final = visit_l (inside E C) n n 0 (lowest n (bit C)) begun

      began : log_of s ≡ begun
      began = λ i. record { visits = record { over = fresh.over i; back = fresh.back i }; order = fresh.none i }

      end-log : log_of end ≡ final
      unfolding final
      end-log =
          did.log
          ∙ rw (began, none, weight-none (λ v. 1) n, root_is) (ap (λ d. visit_l (inside E C) n d 0 (lowest n (bit C)) begun) (omega arith))

      end-order : end.order.flops.items ≡ order_of E n C
      unfolding final order_of
      end-order = ap (λ l. l.order) end-log

      pub searched : Searched E n C end.order
      unfolding final
      searched =
          record {
            back = ap (λ l. l.visits.back) end-log ∙ ap (λ v. v.back) (visit-same (inside E C) n n 0 (lowest n (bit C)) begun);
            few = rw did.held.counted (rw did.alike.part (count-le n (number end.over)));
            order = subst (Sorted (inside E C) (back_of E n C) C) (sym end-order) sorted;
          }
        where
          sorted : Sorted (inside E C) (back_of E n C) C (order_of E n C)
          sorted = record { members = order_of-member low comp; differ = order-differ low comp; later = order-sorted low comp }
