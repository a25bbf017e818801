use Rattle.std.proofs.Common.{◌∙◌, sym}
use Rattle.cycles.proofs.Visiting.{look-first, turn-mark, turn-over, turn-visit}
use Rattle.cycles.proofs.Visiting.{going-falls, begun-held, target-may, end-room, visit-done}
use Rattle.cycles.proofs.search.Search.+visit.Goals as goal

pub loop-w-init : goal.loop-w-init
loop-w-init t c =
    look-first _ _ _ _ _ (c.into_iter-w-iterator.ensures.into_iter_gives ∙ c.members-w-items.ensures) c.inner_row-targets.ensures
    (begun-held _ _ _ c.requires _ c.put-on.ensures)

pub loop-w-preserved-then-has : goal.loop-w-preserved-then-has
loop-w-preserved-then-has t c =
    turn-mark _ _ _ c.requires.inner _ _ _ _ c.in-Some.ensures.steps.1 c.loop-w.invariant _ (sym c.has.ensures ∙ c.if-has.true) c.mark.ensures

pub visit-requires : goal.visit-requires
visit-requires t c = (
  going-falls _ _ _ c.requires _ c.put-on.ensures _ _ c.loop-w.invariant t c.decreases,
  target-may _ _ _ c.requires _ c.put-on.ensures _ _ c.loop-w.invariant _ _ c.in-Some.ensures.steps.1
      (sym c.has.ensures ∙ c.if-has.false) (sym c.has-else-has.ensures ∙ c.if-not-has.true),
)

pub loop-w-preserved-then-not-has : goal.loop-w-preserved-then-not-has
loop-w-preserved-then-not-has t c =
    turn-visit _ _ _ c.requires.inner _ _ _ _ c.in-Some.ensures.steps.1 c.loop-w.invariant _ (sym c.has.ensures ∙ c.if-has.false)
    (sym c.has-else-has.ensures ∙ c.if-not-has.true) c.visit.ensures

pub loop-w-preserved : goal.loop-w-preserved
loop-w-preserved t c =
    turn-over _ _ _ c.requires.inner _ _ _ _ c.in-Some.ensures.steps.1 c.loop-w.invariant (sym c.has.ensures ∙ c.if-has.false)
    (sym c.has-else-has.ensures ∙ c.if-not-has.false)

pub finish-requires-clause-room : goal.finish-requires-clause-room
finish-requires-clause-room t c = end-room _ _ _ c.requires _ c.put-on.ensures _ _ c.loop-w.invariant

pub returns : goal.returns
returns t c = visit-done _ _ _ c.requires _ c.put-on.ensures _ _ c.loop-w.invariant c.in-None.ensures.steps.1.0 _ c.finish.ensures
