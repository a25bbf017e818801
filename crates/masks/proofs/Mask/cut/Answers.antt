-- `and` with the complement of a shifted one clears a binary digit.
use Rattle.std.proofs.Common.{◌-◌, ◌^◌, ℕ, ◌∙◌, ap, arith}
use Rattle.std.specs.Int.Bits.{bit_and}
use Rattle.masks.specs.Sets.{number}
use Rattle.masks.proofs.Words.{shifted_one, and_cut}
use Rattle.masks.proofs.Mask.cut.Goals as goal

pub returns : goal.returns
unfolding number
returns c =
    let a = c.args in
    ap (λ (x : ℕ). bit_and a.self.0 (2 ^ 64 - 1 - x)) (shifted_one 64 a.v.0 c.requires) ∙ and_cut 64 a.self.0 a.v.0 (omega arith) c.requires
