-- Each member that came has its in-neighbours in its row.
use Rattle.std.proofs.Common.{◌∙◌}
use Rattle.cycles.proofs.Incoming.{set_first, set_more, set_all}
use Rattle.cycles.proofs.search.sources.Goals as goal

pub loop-v-init : goal.loop-v-init
loop-v-init c = set_first _ _ _ (c.into_iter-v-iterator.ensures.into_iter_gives ∙ c.members-v-items.ensures)

pub loop-v-preserved : goal.loop-v-preserved
loop-v-preserved c =
    set_more _ _ _ _ _ _ _ _ _ c.in-Some.ensures.steps.1 c.holders.ensures c.cut.ensures c.set_row.ensures c.loop-v.invariant

pub returns-clause-incoming : goal.returns-clause-incoming
returns-clause-incoming c = set_all _ _ _ _ c.in-None.ensures.steps.1.0 c.loop-v.invariant
