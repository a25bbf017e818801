-- The variables of the members that came are made.
use Rattle.std.proofs.Common.{◌≡◌}
use Rattle.masks.specs.Sets.{number}
use Rattle.cycles.proofs.Settles.{Varying}
use Rattle.cycles.proofs.making.make_variables.Given as goal

abbrev pub invariant-loop-v : goal.invariant-loop-v
invariant-loop-v l =
    (l.rooms.nodes.ghost_name ≡ l.initial.rooms.nodes.ghost_name) × (l.rooms.memo.ghost_name ≡ l.initial.rooms.memo.ghost_name)
    × Varying l.initial.rooms.nodes.now (number l.fn.members) l.rooms.nodes.now l.variables l.v-iterator
