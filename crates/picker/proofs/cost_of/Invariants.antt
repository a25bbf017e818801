-- The sum is the weight of the members among the flip-flops passed.
use Rattle.std.proofs.Common.{◌≡◌}
use Rattle.masks.specs.Sets.{number, weight}
use Rattle.graphs.specs.Graph.{cost_of}
use Rattle.picker.proofs.cost_of.Given as goal

abbrev pub invariant-loop-v : goal.invariant-loop-v
invariant-loop-v l = l.total ≡ weight (cost_of l.costs) l.v (number l.set)
