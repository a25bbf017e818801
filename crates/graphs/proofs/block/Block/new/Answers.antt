use Rattle.std.proofs.Common.{sym, length}
use Rattle.graphs.proofs.InOrder.{sound-checked}
use Rattle.graphs.proofs.block.Block.new.Goals as goal

pub invariant_of-graph : goal.invariant_of-graph
invariant_of-graph c = record { sound = sound-checked c.args.rows.now (length c.args.costs.now) (sym c.in_ok-check.ensures) }
