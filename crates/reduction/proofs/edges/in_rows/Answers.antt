-- All rows are passed, and the sides go together.
use Rattle.std.proofs.Common.{◌∙◌, arith}
use Rattle.reduction.proofs.Sides.{beside-made}
use Rattle.reduction.proofs.edges.in_rows.Goals as goal

pub returns : goal.returns
returns c =
    let inv = c.loop-v.invariant in
    beside-made _ _ (inv.long ∙ c.requires.even) c.requires.few c.requires.fit (λ v l. inv.done v (omega arith))
