-- The places passed have their numbers. Assumes nothing.
use Rattle.std.proofs.Common.{length, map}
use Rattle.blockfile.specs.Layout.{numbers}
use Rattle.blockfile.proofs.Fills.{Filled}
use Rattle.blockfile.proofs.parts.fill.Given as goal

abbrev pub invariant-loop-v : goal.invariant-loop-v
invariant-loop-v g l =
    Filled (map g.N.Number.value l.initial.found) (numbers g.N.Number.width (length l.initial.found) l.part) (length l.initial.found) l.v
    (map g.N.Number.value l.found)
