use Rattle.nodes.proofs.Ordering.{plain-table, plain-memo}
use Rattle.nodes.proofs.rooms.descend_beside.Goals as goal

pub invariant_of-rooms : goal.invariant_of-rooms
invariant_of-rooms g c =
    let x = c.requires.0 in
    record { table = plain-table x.table; right = plain-memo _ x.table x.memo }
