-- The measure is twice the number of remaining variables, one more in `join`.
use Rattle.std.proofs.Common.{◌*◌, suc}
use Rattle.nodes.specs.Work.{remaining}
use Rattle.nodes.proofs.rooms.Rooms.+descend_join.Given as goal

abbrev pub decreases-descend : goal.decreases-descend
decreases-descend g l = 2 * remaining l.self.now.nodes.now l.a.0 l.b.0

abbrev pub decreases-join : goal.decreases-join
decreases-join g l = suc (2 * remaining l.self.now.nodes.now l.a.0 l.b.0)
