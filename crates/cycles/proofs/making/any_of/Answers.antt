use Rattle.std.proofs.Common.{refl, ◌∙◌}
use Rattle.cycles.proofs.Sums.{sum-none, sum-left, sum-right, sum-step, sum-full, sum_done}
use Rattle.nodes.proofs.Ordering.{full-table}
use Rattle.cycles.proofs.making.any_of.Goals as goal

pub loop-u-init : goal.loop-u-init
loop-u-init c =
    (refl, refl, sum-none _ _ _ _ (full-table c.args.rooms.now.table) (c.into_iter-u-iterator.ensures.into_iter_gives ∙ c.members-u-items.ensures))

pub or-requires-clause-left : goal.or-requires-clause-left
or-requires-clause-left c = sum-left _ _ _ _ _ _ c.loop-u.invariant.2 _ _ c.in-Some.ensures.steps.1 c.requires

pub or-requires-clause-right : goal.or-requires-clause-right
or-requires-clause-right c = sum-right _ _ _ _ _ _ c.loop-u.invariant.2 _ _ c.in-Some.ensures.steps.1 c.requires

pub returns-in_err-all-clause-made : goal.returns-in_err-all-clause-made
returns-in_err-all-clause-made c =
    sum-full _ _ _ _ _ _ c.loop-u.invariant.2 _ _ c.in-Some.ensures.steps.1 _ _ _ c.in_err-all.ensures.joined _ c.from_residual.ensures.0

pub loop-u-preserved : goal.loop-u-preserved
loop-u-preserved c = (
  c.or.ensures.same_nodes ∙ c.loop-u.invariant.0,
  c.or.ensures.same_memo ∙ c.loop-u.invariant.1,
  sum-step _ _ _ _ _ _ c.loop-u.invariant.2 _ _ c.in-Some.ensures.steps.1 _ _ _ c.in_ok-all.ensures.joined,
)

pub returns-clause-made : goal.returns-clause-made
returns-clause-made c = sum_done _ _ _ _ _ _ c.in-None.ensures.steps.1.0 c.loop-u.invariant.2
