-- The search and the sources, the variables, the passes, and the OR over B.
use Rattle.graphs.proofs.Whole.{part-component}
use Rattle.cycles.proofs.Builds.{members-in, inner-flops, variables-full, first-ready, passes-full, last-shown, build-done}
use Rattle.cycles.proofs.making.build.Goals as goal

pub sources-from-requires-clause-within : goal.sources-from-requires-clause-within
sources-from-requires-clause-within c = λ u t. members-in _ _ c.args.part.graph.sound (part-component c.args.part) u t

pub returns-in_err-variables-clause-built : goal.returns-in_err-variables-clause-built
returns-in_err-variables-clause-built c =
    variables-full _ _ c.args.part.graph.sound (part-component c.args.part) _ c.args.rooms.now.table.small c.requires
    _ _ c.in_err-variables.ensures.made _ c.from_residual.ensures.0

pub invariant_of-wiring : goal.invariant_of-wiring
invariant_of-wiring c = record { inner = inner-flops _ _ c.args.part.graph.sound (part-component c.args.part) _ c.search_component-order.ensures }

pub make_passes-requires : goal.make_passes-requires
make_passes-requires c = (
  _,
  _,
  first-ready _ _ c.args.part.graph.sound (part-component c.args.part) _ c.args.rooms.now.table.small c.requires
      _ _ c.in_ok-variables.ensures.made _ _ c.search_component-order.ensures c.sources-from.ensures.incoming,
)

pub returns-in_err-table-clause-built : goal.returns-in_err-table-clause-built
returns-in_err-table-clause-built c =
    passes-full _ _ c.args.part.graph.sound (part-component c.args.part) _ c.args.rooms.now.table.small c.requires
    _ _ c.in_ok-variables.ensures.made _ _ c.search_component-order.ensures c.sources-from.ensures.incoming
    _ _ c.in_err-table.ensures.passes _ c.from_residual-in_err-table.ensures.0

pub any_of-requires : goal.any_of-requires
any_of-requires c =
    last-shown _ _ c.args.part.graph.sound (part-component c.args.part) _ c.args.rooms.now.table.small c.requires
    _ _ c.in_ok-variables.ensures.made _ _ c.search_component-order.ensures c.sources-from.ensures.incoming
    _ _ c.in_ok-table.ensures.passes

pub returns-clause-built : goal.returns-clause-built
returns-clause-built c =
    build-done _ _ c.args.part.graph.sound (part-component c.args.part) _ c.args.rooms.now.table.small c.requires
    _ _ c.in_ok-variables.ensures.made _ _ c.search_component-order.ensures c.sources-from.ensures.incoming
    _ _ c.in_ok-table.ensures.passes _ _ c.any_of.ensures.made
