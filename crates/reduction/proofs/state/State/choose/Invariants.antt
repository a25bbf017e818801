-- None of the rules tried applies anywhere.
use Rattle.std.proofs.Common.{◌≡◌, drop}
use Rattle.graphs.specs.Graph.{cost_of}
use Rattle.reduction.specs.Rules.{next}
use Rattle.reduction.specs.Blocks.{block_of}
use Rattle.reduction.proofs.Choices.{by_first}
use Rattle.reduction.proofs.state.State.choose.Given as goal

abbrev pub invariant-loop-rule : goal.invariant-loop-rule
invariant-loop-rule l =
    let c = cost_of l.self.costs.now in
    let s = block_of l.self in
    next c s ≡ by_first c s (drop l.rule-index l.rule-items)
