-- No row that was passed is wide.
use Rattle.std.proofs.Common.{◌≡◌, ℕ, ◌<◌, ◌≤◌, false, length}
use Rattle.graphs.specs.Refusals.{wide}
use Rattle.graphs.proofs.first_wide.Given as goal

abbrev pub invariant-loop-v : goal.invariant-loop-v
invariant-loop-v l = (l.v ≤ length l.rows) × ((w : ℕ) → w < l.v → wide l.rows w ≡ false)
