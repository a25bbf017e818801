-- The words in use and the value are read where the cycle function stands.
use Rattle.nodes.proofs.Ordering.{plain-table}
use Rattle.cycles.proofs.Asking.{part-done}
use Rattle.cycles.proofs.ask_part.Goals as goal

pub invariant_of-built : goal.invariant_of-built
invariant_of-built c = record { table = plain-table c.in_ok-cycle.ensures.1.table }

pub returns : goal.returns
returns c =
    part-done _ _ _ c.args.nodes.now c.build_component.new.nodes c.build_component.auto.nodes _ c.in_ok-cycle.ensures
    (record { holds = c.value.result; need = c.used.result }) c.used.ensures c.value.ensures
