-- The rows passed have no self edge.
use Rattle.std.proofs.Common.{◌≤◌, length}
use Rattle.graphs.proofs.Turns.{Rowed}
use Rattle.graphs.proofs.InPlace.{Plain}
use Rattle.graphs.proofs.reaching.drop_selves.Given as goal

abbrev pub invariant-loop-v : goal.invariant-loop-v
invariant-loop-v l = (l.v ≤ length l.rows) × Rowed (Plain l.rows) l.initial.outs l.v l.outs
