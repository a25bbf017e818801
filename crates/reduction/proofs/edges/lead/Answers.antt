-- All rows are passed, and the row of v is emptied.
use Rattle.std.proofs.Common.{◌∙◌, ap, slice_set, arith}
use Rattle.reduction.proofs.Sides.{leads, leads-zero, leads-map}
use Rattle.reduction.proofs.Stores.{rowed-map}
use Rattle.reduction.proofs.edges.lead.Goals as goal

pub returns : goal.returns
returns c =
    let u = c.args.u.0 in
    let v = c.args.v.0 in
    ap (λ xs. slice_set xs v 0) (rowed-map (leads u v) (leads-zero u v) _ _ _ c.loop-row.invariant (omega arith) ∙ leads-map u v c.args.rows.now)
