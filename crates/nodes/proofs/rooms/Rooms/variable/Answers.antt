use Rattle.std.proofs.Common.{◌≡◌, ℕ, List, refl, arith}
use Rattle.trees.specs.Tree.{off, on, br}
use Rattle.nodes.specs.Codes.{is_off, is_on}
use Rattle.nodes.specs.Promise.{Outcome, MakePromise}
use Rattle.std.specs.Prelude.{Result}
use Rattle.nodes.specs.declared.Node.{Node}
use Rattle.nodes.specs.declared.Full.{Full}
use Rattle.trees.proofs.Branches.{mk-other}
use Rattle.nodes.proofs.rooms.Rooms.variable.Goals as goal

-- a decision between them
decided : (ws ws' : List ℕ) (v : ℕ) (r : Result Node Full) → MakePromise ws ws' v 0 1 r → Outcome ws ws' (br v off on) r
decided ws ws' v r m =
    rw (mk-other v off on (λ e. let z : ◌≡◌ {A = ℕ} 0 1 = cc in omega arith)) at (m off on (is_off refl) (is_on refl))

pub make-requires-clause-low : goal.make-requires-clause-low
make-requires-clause-low c = record { tree = off; stands = is_off refl; ordered = tt }

pub make-requires-clause-high : goal.make-requires-clause-high
make-requires-clause-high c = record { tree = on; stands = is_on refl; ordered = tt }

pub returns-clause-made : goal.returns-clause-made
returns-clause-made c = decided c.args.self.now.nodes.now c.make.new.self.nodes.now c.args.v.0 c.make.result c.make.ensures.made
