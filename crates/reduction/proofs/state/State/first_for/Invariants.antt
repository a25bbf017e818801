-- The rule applies to none passed.
use Rattle.std.proofs.Common.{◌≡◌, ℕ, ◌<◌, false}
use Rattle.graphs.specs.Graph.{cost_of}
use Rattle.reduction.specs.Blocks.{block_of}
use Rattle.reduction.specs.Work.{applies}
use Rattle.reduction.proofs.state.State.first_for.Given as goal

abbrev pub invariant-loop-k : goal.invariant-loop-k
invariant-loop-k l = (k : ℕ) → k < l.k → applies l.rule (cost_of l.self.costs.now) (block_of l.self) k ≡ false
