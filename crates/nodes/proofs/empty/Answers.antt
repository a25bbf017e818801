use Rattle.nodes.proofs.Clearing.{emptied-is}
use Rattle.nodes.proofs.empty.Goals as goal

pub returns : goal.returns
returns c = emptied-is c.args.nodes.now _ _ c.capacity-n.ensures c.clear.ensures
