-- What was counted and what is left to count are all words in use.
use Rattle.nodes.proofs.Clearing.{Counting}
use Rattle.nodes.proofs.used.Given as goal

abbrev pub invariant-loop-word : goal.invariant-loop-word
invariant-loop-word l = Counting l.nodes l.count l.word-index
