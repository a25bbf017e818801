-- The slots passed are in use, and none of them holds the word.
use Rattle.nodes.specs.Work.{Skipped}
use Rattle.nodes.proofs.probes.scan.Given as goal

abbrev pub invariant-loop-s : goal.invariant-loop-s
invariant-loop-s l = Skipped l.nodes l.w l.from l.s
