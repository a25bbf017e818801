use Rattle.std.proofs.Common.{refl, ◌∙◌, ap, sym, length}
use Rattle.picker.proofs.EachComponent.{swept_none, swept_all, same_rows, swept-more, swept-over, larger}
use Rattle.picker.proofs.components.graph_set.Goals as goal

pub loop-part-init : goal.loop-part-init
loop-part-init c =
    let items = c.components-part-items.ensures in
    swept_none _ _ _ _ c.none-set.ensures _ _ c.into_iter-part-iterator.ensures.into_iter_gives items.same items.all

pub component_set-requires-clause-even : goal.component_set-requires-clause-even
component_set-requires-clause-even c =
    let block = c.args.block in
    block.even ∙ ap length (sym (same_rows _ _ _ block.graph.sound c.loop-part.invariant c.in-Some.part c.in-Some.ensures.steps))

pub returns-in_default : goal.returns-in_default
returns-in_default c = (
  refl,
  swept-over _ _ _ c.args.block.graph.sound c.loop-part.invariant c.in-Some.part c.in-Some.ensures.steps
      _ c.loop-part.auto.nodes c.in_default.ensures,
)

pub loop-part-preserved : goal.loop-part-preserved
loop-part-preserved c =
    swept-more _ _ _ c.args.block.graph.sound c.loop-part.invariant c.in-Some.part c.in-Some.ensures.steps
    _ _ _ _ _ c.loop-part.auto.nodes c.in-Ok.ensures c.join-set.ensures
    (c.max-need.ensures ∙ larger c.loop-part.need c.in-Ok.found.need)

pub returns : goal.returns
returns c = swept_all _ _ _ c.args.block.graph.sound c.loop-part.invariant c.in-None.ensures.steps
