use Rattle.std.proofs.Common.{refl, ◌∙◌}
use Rattle.nodes.proofs.Ordering.{full-table}
use Rattle.cycles.proofs.Settles.{vary-none, vary-step, vary-full, vary-done}
use Rattle.cycles.proofs.making.make_variables.Goals as goal

pub loop-v-init : goal.loop-v-init
loop-v-init c =
    (refl, refl, vary-none _ _ _ _ (full-table c.args.rooms.now.table) refl (c.into_iter-v-iterator.ensures.into_iter_gives ∙ c.members-v-items.ensures))

pub returns-in_err-variables-clause-made : goal.returns-in_err-variables-clause-made
returns-in_err-variables-clause-made c =
    vary-full _ _ _ _ _ c.loop-v.invariant.2 _ _ c.in-Some.ensures.steps.1 _ _ c.in_err-variables.ensures.made _ c.from_residual.ensures.0

pub loop-v-preserved : goal.loop-v-preserved
loop-v-preserved c = (
  c.variable.ensures.same_nodes ∙ c.loop-v.invariant.0,
  c.variable.ensures.same_memo ∙ c.loop-v.invariant.1,
  vary-step _ _ _ _ _ c.loop-v.invariant.2 _ _ c.in-Some.ensures.steps.1 _ _ _ c.in_ok-variables.ensures.made refl,
)

pub returns-clause-made : goal.returns-clause-made
returns-clause-made c = vary-done _ _ _ _ _ c.in-None.ensures.steps.1.0 c.loop-v.invariant.2
