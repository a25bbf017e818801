-- The flip-flops of the order from place i on have passed.
use Rattle.std.proofs.Common.{◌≡◌, ◌≤◌, ℕ, List, length}
use Rattle.cycles.specs.Work.{Ready}
use Rattle.cycles.proofs.Passing.{Passing}
use Rattle.cycles.proofs.making.pass.Given as goal

abbrev pub invariant-loop-i : goal.invariant-loop-i
invariant-loop-i l =
    (l.rooms.nodes.ghost_name ≡ l.initial.rooms.nodes.ghost_name) × (l.rooms.memo.ghost_name ≡ l.initial.rooms.memo.ghost_name)
    × (l.i ≤ length l.order.flops.items)
    × ((rows : List ℕ) (C j : ℕ) → Ready rows C j l.initial.rooms.nodes.now l.order l.sources l.variables l.initial.table
    → Passing rows C l.order j l.initial.rooms.nodes.now l.i l.rooms.nodes.now l.table l.next)
