-- `or` with a shifted one sets a binary digit.
use Rattle.std.proofs.Common.{◌∙◌, ap, arith}
use Rattle.std.specs.Int.Bits.{bit_or}
use Rattle.masks.specs.Sets.{number}
use Rattle.masks.proofs.Words.{shifted_one, or_put}
use Rattle.masks.proofs.Mask.put.Goals as goal

pub returns : goal.returns
unfolding number
returns c =
    let a = c.args in
    ap (bit_or a.self.0) (shifted_one 64 a.v.0 c.requires) ∙ or_put 64 a.self.0 a.v.0 (omega arith) c.requires
