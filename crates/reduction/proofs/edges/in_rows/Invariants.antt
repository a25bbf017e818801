-- The in-rows of the flip-flops passed are stored.
use Rattle.std.proofs.Common.{length, get_or}
use Rattle.masks.specs.Sets.{bit, those}
use Rattle.graphs.proofs.Turns.{Rowed}
use Rattle.reduction.proofs.Stores.{Wanted}
use Rattle.reduction.proofs.edges.in_rows.Given as goal

abbrev pub invariant-loop-v : goal.invariant-loop-v
invariant-loop-v l = Rowed (Wanted (λ k. those (length l.outs) (λ u. bit (get_or l.outs u 0) k))) l.initial.ins l.v l.ins
