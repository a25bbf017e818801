-- The components that came were met.
use Rattle.std.proofs.Common.{length}
use Rattle.masks.specs.Sets.{number}
use Rattle.cycles.proofs.Asking.{Asking}
use Rattle.cycles.proofs.ask_graph.Given as goal

abbrev pub invariant-loop-part : goal.invariant-loop-part
invariant-loop-part l = Asking l.graph.rows.now (number l.kept) (length l.initial.nodes) l.need l.holds l.part-iterator
