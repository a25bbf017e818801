-- The numbers passed are spelled. Assumes nothing.
use Rattle.std.proofs.Common.{map}
use Rattle.blockfile.proofs.Spelling.{Spelt}
use Rattle.blockfile.proofs.parts.spell.Given as goal

abbrev pub invariant-loop-v : goal.invariant-loop-v
invariant-loop-v g l = Spelt g.N.Number.width l.initial.part (map g.N.Number.value l.numbers) l.v l.part
