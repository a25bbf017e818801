-- v is not in the row.
use Rattle.std.proofs.Common.{sym, ◌∙◌}
use Rattle.masks.proofs.PutCut.{cut-gone}
use Rattle.reduction.proofs.edges.led.Goals as goal

pub returns-else-has : goal.returns-else-has
returns-else-has c =
    let out = sym c.has.ensures ∙ c.if-has.false in
    rw out (sym (cut-gone _ _ out))
