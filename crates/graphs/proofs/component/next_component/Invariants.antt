-- None that was passed is the lowest of a component.
use Rattle.std.proofs.Common.{Bool, ℕ, ◌≤◌}
use Rattle.graphs.specs.Work.{Reaching, NoneLeads}
use Rattle.graphs.proofs.component.next_component.Given as goal

abbrev pub invariant-loop-v : goal.invariant-loop-v
invariant-loop-v l = (l.from ≤ l.v) × ((E : ℕ → ℕ → Bool) → Reaching E l.reached → NoneLeads E l.from l.v)
