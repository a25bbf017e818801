-- Those of the members that came whose rows hold v are gathered.
use Rattle.masks.specs.Sets.{number}
use Rattle.graphs.proofs.Gathering.{Gathering}
use Rattle.graphs.proofs.component.holders.Given as goal

abbrev pub invariant-loop-u : goal.invariant-loop-u
invariant-loop-u l = Gathering l.rows (number l.fn.among) l.v.0 l.u-iterator (number l.found)
