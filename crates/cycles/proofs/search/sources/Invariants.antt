-- The members that came have their in-neighbours.
use Rattle.masks.specs.Sets.{number}
use Rattle.cycles.proofs.Incoming.{Setting}
use Rattle.cycles.proofs.search.sources.Given as goal

abbrev pub invariant-loop-v : goal.invariant-loop-v
invariant-loop-v l = Setting l.rows (number l.members) l.v-iterator l.found
