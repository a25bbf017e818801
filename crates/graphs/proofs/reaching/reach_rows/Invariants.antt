-- The flip-flops passed were taken in.
use Rattle.graphs.proofs.InPlace.{Closing}
use Rattle.graphs.proofs.reaching.reach_rows.Given as goal

abbrev pub invariant-loop-k : goal.invariant-loop-k
invariant-loop-k l = Closing l.rows l.k l.reached
