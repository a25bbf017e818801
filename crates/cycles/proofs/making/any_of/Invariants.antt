-- The OR over the members that came was made.
use Rattle.std.proofs.Common.{◌≡◌}
use Rattle.masks.specs.Sets.{number}
use Rattle.cycles.proofs.Sums.{Summing}
use Rattle.cycles.proofs.making.any_of.Given as goal

abbrev pub invariant-loop-u : goal.invariant-loop-u
invariant-loop-u l =
    (l.rooms.nodes.ghost_name ≡ l.initial.rooms.nodes.ghost_name) × (l.rooms.memo.ghost_name ≡ l.initial.rooms.memo.ghost_name)
    × Summing l.initial.rooms.nodes.now l.table (number l.fn.set) l.rooms.nodes.now l.u-iterator l.all.0
