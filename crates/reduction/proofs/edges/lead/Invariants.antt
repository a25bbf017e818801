-- In the rows passed u stands where v stood.
use Rattle.std.proofs.Common.{get_or}
use Rattle.graphs.proofs.Turns.{Rowed}
use Rattle.reduction.proofs.Sides.{leads}
use Rattle.reduction.proofs.Stores.{Wanted}
use Rattle.reduction.proofs.edges.lead.Given as goal

abbrev pub invariant-loop-row : goal.invariant-loop-row
invariant-loop-row l = Rowed (Wanted (λ k. leads l.u.0 l.v.0 (get_or l.fn.rows k 0))) l.fn.rows l.row-index l.rows
