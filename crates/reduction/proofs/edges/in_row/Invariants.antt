-- Of the flip-flops passed, the in-neighbours are found.
use Rattle.std.proofs.Common.{◌≡◌, get_or}
use Rattle.masks.specs.Sets.{bit, those, number}
use Rattle.reduction.proofs.edges.in_row.Given as goal

abbrev pub invariant-loop-u : goal.invariant-loop-u
invariant-loop-u l = number l.found ≡ those l.u (λ a. bit (get_or l.outs a 0) l.v.0)
