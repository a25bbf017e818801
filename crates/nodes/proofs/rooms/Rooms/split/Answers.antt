use Rattle.std.proofs.Common.{rules, ◌≡◌, ◌-◌, min, ap, ap₂, ◌∙◌}
use Rattle.nodes.specs.Packing.{variable_of}
use Rattle.nodes.proofs.Slots.{taken-lt}
use Rattle.nodes.proofs.Standing.{stands-taken}
use Rattle.nodes.proofs.Splitting.{split-at}
use Rattle.nodes.proofs.Ordering.{full-table}
use Rattle.nodes.proofs.rooms.Rooms.split.Goals as goal

pub at-y-requires-clause-inside : goal.at-y-requires-clause-inside
at-y-requires-clause-inside c = taken-lt c.args.self.now.nodes.now (c.args.b.0 - 2) (stands-taken c.requires.nodes.1 c.requires.right.stands)

pub returns : goal.returns
returns c s t sa sb =
    let least : c.min-v.result.0 ≡ min c.variable.result.0 c.variable-2.result.0 = search rules in
    let x = c.at-x.ensures in
    let y = c.at-y.ensures in
    let v = c.variable.ensures ∙ ap variable_of x in
    let w = c.variable-2.ensures ∙ ap variable_of y in
    let one = c.branches.ensures in
    let two = c.branches-2.ensures in
    split-at c.args.self.now.nodes.now (full-table c.args.self.now.table) c.args.a.0 c.args.b.0 c.requires.nodes.0 c.requires.nodes.1 _ s t sa sb
    (least ∙ ap₂ min v w) (rw (← x) one.low) (rw (← x) one.high) (rw (← y) two.low) (rw (← y) two.high)
