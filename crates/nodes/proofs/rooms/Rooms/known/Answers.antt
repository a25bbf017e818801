use Rattle.nodes.proofs.Remembering.{known-recalled}
use Rattle.nodes.proofs.rooms.Rooms.known.Goals as goal

pub returns-in-None : goal.returns-in-None
returns-in-None g c = known-recalled _ g.C.Connective.or _ _ c.recall.result c.in-None.ensures c.recall.ensures
