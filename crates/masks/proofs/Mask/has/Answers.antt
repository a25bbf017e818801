-- The test of a shifted word is the test of a binary digit.
use Rattle.masks.specs.Sets.{number}
use Rattle.masks.proofs.Words.{test_bit}
use Rattle.masks.proofs.Mask.has.Goals as goal

pub returns : goal.returns
unfolding number
returns c = test_bit c.args.self.0 c.args.v.0
