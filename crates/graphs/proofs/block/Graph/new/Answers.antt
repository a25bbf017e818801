use Rattle.std.proofs.Common.{sym, length}
use Rattle.graphs.proofs.InOrder.{sound-checked}
use Rattle.graphs.proofs.block.Graph.new.Goals as goal

pub invariant_of-result : goal.invariant_of-result
invariant_of-result c = record { sound = sound-checked c.args.rows.now (length c.args.rows.now) (sym c.in_ok-check.ensures) }
