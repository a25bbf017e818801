use Rattle.std.proofs.Common.{◌∙◌, sym, eqb-true}
use Rattle.nodes.proofs.Ending.{end-unit-l, end-unit-r, end-zero-l, end-zero-r, end_same}
use Rattle.nodes.proofs.joins.ends.Goals as goal
use Rattle.nodes.proofs.joins.ends.Goals.{then-eq-via-then-eq, then-eq-via-else-eq+then-eq-2, then-eq-3-via-then-eq-3, then-eq-3-via-else-eq-3+then-eq-4, then-eq-3-via-else-eq-3+else-eq-4+then-eq-5}

pub returns-then-eq : goal.returns-then-eq
returns-then-eq g c ws s t T sa sb =
    elim c.then-eq.branch [
      | then-eq-via-then-eq w ↦ end-unit-l g.C.Connective.or _ _ ws s t T sa sb (eqb-true _ _ (sym c.eq.ensures ∙ w.if-eq.true) ∙ c.unit.ensures)
      | then-eq-via-else-eq+then-eq-2 w ↦ end-zero-r g.C.Connective.or _ _ ws s t T sa sb (eqb-true _ _ (sym w.eq-else-eq.ensures ∙ w.if-eq-2.true) ∙ w.zero.ensures)
    ]

pub returns-then-eq-3 : goal.returns-then-eq-3
returns-then-eq-3 g c ws s t T sa sb =
    elim c.then-eq-3.branch [
      | then-eq-3-via-then-eq-3 w ↦ end-unit-r g.C.Connective.or _ _ ws s t T sa sb (eqb-true _ _ (sym c.eq-2.ensures ∙ w.if-eq-3.true) ∙ c.unit-2.ensures)
      | then-eq-3-via-else-eq-3+then-eq-4 w ↦ end-zero-l g.C.Connective.or _ _ ws s t T sa sb (eqb-true _ _ (sym w.eq-else-eq-3.ensures ∙ w.if-eq-4.true) ∙ w.zero-else-eq-3.ensures)
      | then-eq-3-via-else-eq-3+else-eq-4+then-eq-5 w ↦ end_same _ _ _ ws s t T sa sb (eqb-true _ _ (sym w.eq-else-eq-4.ensures ∙ w.if-eq-5.true))
    ]
