use Rattle.nodes.proofs.Packings.{mix-is}
use Rattle.nodes.proofs.words.mixed.Goals as goal

pub returns : goal.returns
returns c = mix-is c.args.w
