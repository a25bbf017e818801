-- One flip-flop more is an in-neighbour, or not.
use Rattle.std.proofs.Common.{◌∙◌, sym, ap}
use Rattle.masks.specs.Sets.{bit, those, number}
use Rattle.reduction.proofs.Sides.{those-more, those-same}
use Rattle.reduction.proofs.edges.in_row.Goals as goal
use Rattle.reduction.proofs.edges.in_row.Goals.{then-has, else-has}

pub loop-u-init : goal.loop-u-init
unfolding those
loop-u-init c = c.none-found.ensures

pub loop-u-preserved : goal.loop-u-preserved
loop-u-preserved c =
    let tested = sym (c.has.ensures ∙ ap (λ r. bit r c.args.v.0) c.row.ensures) in
    elim c.if-has.branch [
      | then-has w ↦ ap number w.found-is ∙ w.put-found.ensures ∙ those-more _ _ _ c.loop-u.invariant (tested ∙ w.if-has.true)
      | else-has w ↦ ap number w.found-is ∙ those-same _ _ _ c.loop-u.invariant (tested ∙ w.if-has.false)
    ]
