use Rattle.nodes.proofs.Packings.{pack-is}
use Rattle.nodes.proofs.words.Word.pack.Goals as goal

pub returns : goal.returns
returns c = pack-is c.args.v.0 c.args.low.0 c.args.high.0 c.requires.low c.requires.high c.requires.variable
