-- A memo of zeros is right in every room, and the lent one stays right.
use Rattle.std.proofs.Common.{rules}
use Rattle.nodes.proofs.Composing.{outcome-table}
use Rattle.nodes.proofs.Applying.{known_joined, able-zero, joined-beside}
use Rattle.nodes.proofs.Ordering.{full-table, plain-table, plain-memo, able}
use Rattle.nodes.proofs.rooms.Rooms.joined.Goals as goal

pub returns-in-Some-clause-joined : goal.returns-in-Some-clause-joined
returns-in-Some-clause-joined g c =
    let rooms = c.args.self.now in
    known_joined g.C.Connective.or c.in-Some.r (able _ rooms.table rooms.right c.requires.left c.requires.right)
    (λ s t sa sb. c.in-Some.ensures rooms.nodes.now s t (full-table rooms.table) sa sb)

pub descend_beside-requires : goal.descend_beside-requires
descend_beside-requires g c =
    let rooms = c.args.self.now in
    let two = c.in_default.ensures in
    (able-zero 4096 (able rooms.memo.now rooms.table rooms.right c.requires.left c.requires.right), search rules, two.0, two.1)

pub invariant_of-self : goal.invariant_of-self
invariant_of-self g c =
    let rooms = c.args.self.now in
    let j = c.descend_beside.ensures in
    let x = able rooms.memo.now rooms.table rooms.right c.requires.left c.requires.right in
    let t = outcome-table _ _ _ c.descend_beside.result (j.outcome c.requires.left.tree c.requires.right.tree c.requires.left.stands c.requires.right.stands) in
    record { table = plain-table t; right = plain-memo _ t (joined-beside x j).memo }

pub returns-then-self-lt-MEMO-clause-joined : goal.returns-then-self-lt-MEMO-clause-joined
returns-then-self-lt-MEMO-clause-joined g c =
    let rooms = c.args.self.now in
    joined-beside (able rooms.memo.now rooms.table rooms.right c.requires.left c.requires.right) c.descend_beside.ensures
