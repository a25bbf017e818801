-- So many passes are over.
use Rattle.std.proofs.Common.{◌≡◌, ℕ, List}
use Rattle.cycles.specs.Work.{ones_at_first, Ready}
use Rattle.cycles.proofs.Rounds.{Round}
use Rattle.cycles.proofs.making.make_passes.Given as goal

abbrev pub invariant-loop : goal.invariant-loop
invariant-loop l =
    (l.rooms.nodes.ghost_name ≡ l.initial.rooms.nodes.ghost_name) × (l.rooms.memo.ghost_name ≡ l.initial.rooms.memo.ghost_name)
    × ((rows : List ℕ) (C : ℕ) → Ready rows C 0 l.initial.rooms.nodes.now l.wiring.order.now l.wiring.sources.now l.wiring.variables.now ones_at_first
    → Round rows C l.counter l.initial.rooms.nodes.now l.rooms.nodes.now l.table)
