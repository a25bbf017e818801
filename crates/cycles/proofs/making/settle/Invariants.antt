-- The members that came are taken over.
use Rattle.masks.specs.Sets.{number}
use Rattle.cycles.proofs.Settles.{Taking}
use Rattle.cycles.proofs.making.settle.Given as goal

abbrev pub invariant-loop-b : goal.invariant-loop-b
invariant-loop-b l = Taking (number l.fn.back) l.initial.table l.next l.table l.same l.b-iterator
