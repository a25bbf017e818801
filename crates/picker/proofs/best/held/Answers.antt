use Rattle.std.proofs.Common.{arith, subst, length}
use Rattle.masks.specs.Sets.{number}
use Rattle.graphs.specs.Graph.{cost_of}
use Rattle.picker.specs.Work.{Priced, Lacks}
use Rattle.picker.proofs.Choosing.{held_one, weight-small}
use Rattle.picker.proofs.best.held.Goals as goal

pub overflow_add-result : goal.overflow_add-result
overflow_add-result c =
    let costs = c.args.costs.now in
    omega (
      arith,
      c.type_inv.costs c.args.v.0,
      weight-small costs (number c.in_ok-cost.field-0.set) c.requires.in_bounds.1 (λ v. (c.type_inv.costs v).fits),
      subst (Priced (cost_of costs) (length costs)) c.in_ok-cost.was c.requires.priced_without_v.0,
    )

pub returns : goal.returns
returns c =
    let costs = c.args.costs.now in
    rw (c.in_ok-cost.was, c.from.ensures)
    (held_one (cost_of costs) (length costs) c.args.v.0 c.in_ok-cost.field-0 c.put.result c.requires.in_bounds.0
    (subst (Priced (cost_of costs) (length costs)) c.in_ok-cost.was c.requires.priced_without_v.0)
    (subst (Lacks c.args.v.0) c.in_ok-cost.was c.requires.priced_without_v.1) c.put.ensures)
