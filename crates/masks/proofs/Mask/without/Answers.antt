-- `and` with a complement takes the members of the other set away.
use Rattle.std.proofs.Common.{arith}
use Rattle.masks.specs.Sets.{number}
use Rattle.masks.proofs.Words.{and-minus}
use Rattle.masks.proofs.Mask.without.Goals as goal

pub returns : goal.returns
unfolding number
returns c = and-minus 64 c.args.self.0 c.args.other.0 (omega arith) (omega arith)
