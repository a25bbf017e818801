-- A rule applies where those before it do not.
use Rattle.graphs.specs.Graph.{cost_of}
use Rattle.reduction.specs.Blocks.{block_of}
use Rattle.reduction.proofs.Choices.{next-first, tried-at}
use Rattle.reduction.proofs.state.State.choose.Goals as goal

pub loop-rule-init : goal.loop-rule-init
loop-rule-init c = next-first (cost_of c.args.self.now.costs.now) (block_of c.args.self.now)

pub returns-in-Some : goal.returns-in-Some
returns-in-Some c =
    tried-at (cost_of c.args.self.now.costs.now) (block_of c.args.self.now) _ _ _ _ c.loop-rule-test.true c.loop-rule.invariant c.in-Some.ensures
