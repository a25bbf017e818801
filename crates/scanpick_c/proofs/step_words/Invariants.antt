-- The words passed are those of the steps passed.
use Rattle.std.proofs.Common.{◌≡◌, length, map, take}
use Rattle.scanpick_c.specs.Promise.{step_word}
use Rattle.scanpick_c.proofs.step_words.Given as goal

abbrev pub invariant-loop-i : goal.invariant-loop-i
invariant-loop-i l = (length l.words ≡ 64) × (take l.i l.words ≡ map step_word (take l.i l.fn.steps))
