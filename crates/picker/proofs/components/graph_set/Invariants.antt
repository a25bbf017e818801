-- The components met fit, and the set is their best sets together.
use Rattle.std.proofs.Common.{length}
use Rattle.masks.specs.Sets.{number}
use Rattle.picker.proofs.EachComponent.{Swept}
use Rattle.picker.proofs.components.graph_set.Given as goal

abbrev pub invariant-loop-part : goal.invariant-loop-part
invariant-loop-part l = Swept l.block.graph.rows.now l.block.costs.now (length l.initial.nodes) (number l.set) l.need l.part-iterator
