-- The rows passed have taken row k in where they held k, the others are as they were.
use Rattle.std.proofs.Common.{◌≤◌}
use Rattle.graphs.proofs.Turns.{Rowed}
use Rattle.graphs.proofs.InPlace.{TakenIn}
use Rattle.graphs.proofs.reaching.take_in.Given as goal

abbrev pub invariant-loop-u : goal.invariant-loop-u
invariant-loop-u l = (l.u ≤ l.n) × Rowed (TakenIn l.k.0 l.initial.reached) l.initial.reached l.u l.reached
