use Rattle.nodes.proofs.Ordering.{plain-table, plain-memo}
use Rattle.nodes_c.proofs.room_or.Goals as goal

pub invariant_of-rooms : goal.invariant_of-rooms
invariant_of-rooms c = record { table = plain-table c.requires.table; right = plain-memo _ c.requires.table c.requires.memo }
