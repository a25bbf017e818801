-- The targets passed were gone along. The measure of the visit is how many are not being visited, which falls at each call, since v is then being visited too.
use Rattle.std.proofs.Common.{◌-◌, length}
use Rattle.masks.specs.Sets.{number}
use Rattle.cycles.specs.Work.{size}
use Rattle.cycles.proofs.Visiting.{Looking}
use Rattle.cycles.proofs.search.Search.+visit.Given as goal

abbrev pub decreases-visit : goal.decreases-visit
decreases-visit l = length l.self.now.part.graph.rows.now - size (length l.self.now.part.graph.rows.now) (number l.going)

abbrev pub invariant-loop-w : goal.invariant-loop-w
invariant-loop-w l = Looking l.v.0 (number l.on) l.initial.self l.self l.w-iterator
