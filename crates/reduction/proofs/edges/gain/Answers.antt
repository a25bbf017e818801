-- Two rows are stored, and the others hold no v.
use Rattle.std.proofs.Common.{ap, ap₂, ◌∙◌, slice_set}
use Rattle.std.specs.Int.Bits.{bit_or}
use Rattle.masks.specs.Sets.{cut}
use Rattle.reduction.proofs.Sides.{gain-is}
use Rattle.reduction.proofs.edges.gain.Goals as goal

pub returns : goal.returns
returns c =
    let v = c.args.v.0 in
    let made = c.cut.ensures ∙ ap (λ m. cut m v) (c.join.ensures ∙ ap₂ bit_or c.row.ensures c.row-2.ensures) in
    ap (λ xs. slice_set xs v 0) c.set_row.ensures ∙ gain-is c.args.rows.now c.args.u.0 v _ c.requires.within.0 c.requires.other c.requires.only made
