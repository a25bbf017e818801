-- The walk finds the lightest set where the cycle function stands, and the words in use there are the need.
use Rattle.std.proofs.Common.{subst}
use Rattle.masks.specs.Sets.{number}
use Rattle.graphs.proofs.Whole.{part-component}
use Rattle.nodes.proofs.Ordering.{plain-table}
use Rattle.picker.specs.Work.{SetRight}
use Rattle.picker.proofs.OneComponent.{set-right}
use Rattle.picker.proofs.components.component_set.Goals as goal

pub invariant_of-room : goal.invariant_of-room
invariant_of-room c = record { table = plain-table c.in_ok-built.ensures.1.table }

pub returns : goal.returns
returns c =
    let part = c.args.part in
    subst (λ k. SetRight part.graph.rows.now c.args.costs.now (number part.members) k (number c.lightest-set.result) c.used.result)
    c.build_component.auto.nodes
    (set-right part.graph.rows.now c.args.costs.now c.build_component.new.nodes _ _ _ part.graph.sound c.requires.even (part-component part) c.in_ok-built.ensures
    _ _ c.lightest-set.ensures c.used.ensures)
