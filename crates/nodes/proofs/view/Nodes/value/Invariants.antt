-- The code come to has the same value. The measure is the number of variables that remain.
use Rattle.std.proofs.Common.{◌-◌}
use Rattle.masks.specs.Sets.{number}
use Rattle.nodes.specs.Codes.{variables, level}
use Rattle.nodes.proofs.Walking.{Walked}
use Rattle.nodes.proofs.view.Nodes.value.Given as goal

abbrev pub invariant-loop-v : goal.invariant-loop-v
invariant-loop-v l = Walked l.self.words.now (number l.kept) l.initial.at.0 l.at.0

abbrev pub decreases-loop-v : goal.decreases-loop-v
decreases-loop-v l = variables - level l.self.words.now l.at.0
