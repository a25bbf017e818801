-- The number of variables that remain.
use Rattle.picker.proofs.Walking.{remaining}
use Rattle.picker.proofs.best.Walk.+best_of.Given as goal

abbrev pub decreases-best_of : goal.decreases-best_of
decreases-best_of l = remaining l.self.now.nodes.words.now l.node.0
