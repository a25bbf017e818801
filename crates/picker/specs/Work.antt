-- What the contracts of the code say in between. No part of document 01. Assumes nothing.
use Rattle.std.specs.Prelude.{◌≡◌, false, List, ℕ, ◌+◌, ◌*◌, ◌/◌, ◌%◌, ◌^◌, ◌≤◌, ◌<◌, T, length, get_or, Result, Ok, Err, Some, None}
use Rattle.std.specs.Prelude as prelude
use Rattle.std.proofs.Math.Option.{Option, none, some}
use Rattle.masks.specs.Sets.{bit, number, weight}
use Rattle.graphs.specs.Graph.{edge, cost_of}
use Rattle.graphs.specs.Light.{Lightest}
use Rattle.graphs.specs.Components.{inside}
use Rattle.graphs.specs.Refusals.{number_of, place_of}
use Rattle.graphs.specs.declared.refusal.Refusal.{Refusal}
use Rattle.trees.specs.Tree.{Tree, Ordered}
use Rattle.trees.specs.Best.{Under, lighter, best}
use Rattle.trees.specs.Need.{Need}
use Rattle.nodes.specs.Codes.{Stands}
use Rattle.nodes.specs.declared.Full.{Full}
use Rattle.cycles.specs.Passes.{functions}
use Rattle.cycles.specs.Needs.{Answered, TooLarge}
use Rattle.cycles.specs.Work.{TooSmall}
use Rattle.picker.specs.declared.best.Best.{Best}
use Rattle.picker.specs.declared.components.Found.{Found}

-- ---- the lightest set by components

-- of the component C: the lightest set that meets every loop of it, and its need; or the need exceeds the capacity
pub record SetRight (rows costs : List ℕ) (C capacity set need : ℕ) : Type 0 where
  pub lightest : Lightest (cost_of costs) (length rows) (λ S. (v : ℕ) → T (bit S v) → T (bit C v)) (inside (edge rows) C) set
  pub counts : Need (functions (edge rows) (length rows) C) need
  pub fits : need ≤ capacity

abbrev pub SetPromise : List ℕ → List ℕ → ℕ → ℕ → Result Found Full → Type 0
SetPromise rows costs C capacity (Ok f) = SetRight rows costs C capacity (number f.set) f.need
SetPromise rows costs C capacity (Err f) = TooSmall (edge rows) (length rows) C capacity

-- of a graph: the lightest set that meets every loop of it, each member of which has an edge, and the largest need; or refusal 4 with the place where a need is too large
pub record GraphRight (rows costs : List ℕ) (capacity set need : ℕ) : Type 0 where
  pub lightest : Lightest (cost_of costs) (length rows) (λ S. Unit {0}) (edge rows) set
  pub linked : (v : ℕ) → T (bit set v) → (w : ℕ) × T (edge rows v w)
  pub largest : Answered (edge rows) (length rows) capacity need

abbrev pub GraphPromise : List ℕ → List ℕ → ℕ → Result Found Refusal → Type 0
GraphPromise rows costs capacity (Ok f) = GraphRight rows costs capacity (number f.set) f.need
GraphPromise rows costs capacity (Err r) = (number_of r ≡ 4) × TooLarge (edge rows) (length rows) capacity (place_of r)

-- ---- the lightest set out of the node room

-- the set of an answer, where there is one
abbrev pub set_of : prelude.Option Best → Option ℕ
set_of (Some b) = some (number b.set)
set_of None = none

-- the cost of an answer is its set's, at the costs c of n flip-flops
abbrev pub Priced : (ℕ → ℕ) → ℕ → prelude.Option Best → Type 0
Priced c n (Some b) = b.cost ≡ weight c n (number b.set)
Priced c n None = Unit {0}

-- the set of an answer lacks v
abbrev pub Lacks : ℕ → prelude.Option Best → Type 0
Lacks v (Some b) = bit (number b.set) v ≡ false
Lacks v None = Unit {0}

-- the answer for the tree t
pub record Told (c : ℕ → ℕ) (n : ℕ) (t : Tree) (r : prelude.Option Best) : Type 0 where
  pub set : set_of r ≡ best c n t
  pub priced : Priced c n r

-- the lighter of two, at whatever costs the answers were found
abbrev pub LighterPromise : prelude.Option Best → prelude.Option Best → prelude.Option Best → Type 0
LighterPromise a b r = (c : ℕ → ℕ) (n : ℕ) → Priced c n a → Priced c n b → (set_of r ≡ lighter c n (set_of a) (set_of b)) × Priced c n r

-- ---- the memo of that walk

-- a word packs the code of a node and the cost of its best set, and the next word is that set
unfoldable pub code_and_cost : ℕ → ℕ → ℕ
code_and_cost code cost = code * 2 ^ 40 + cost

unfoldable pub code_in : ℕ → ℕ
code_in w = w / 2 ^ 40

unfoldable pub cost_in : ℕ → ℕ
cost_in w = w % 2 ^ 40

-- S is the best set of the tree t, and k its cost
pub record Weighed (c : ℕ → ℕ) (n : ℕ) (t : Tree) (k S : ℕ) : Type 0 where
  pub set : best c n t ≡ some S
  pub cost : k ≡ weight c n S

-- each two words are right for what their code stands for in the room ws. (Two that are 0 are: the constant 0 has the empty set.)
abbrev pub BestMemo : (ℕ → ℕ) → ℕ → List ℕ → List ℕ → Type 0
BestMemo c n ws ms = (i : ℕ) (t : Tree) → Stands ws (code_in (get_or ms (2 * i) 0)) t → Weighed c n t (cost_in (get_or ms (2 * i) 0)) (get_or ms (2 * i + 1) 0)

abbrev pub Recalled : List ℕ → ℕ → prelude.Option Best → Type 0
Recalled ms code (Some b) = (c : ℕ → ℕ) (n : ℕ) (ws : List ℕ) → BestMemo c n ws ms → (t : Tree) → Stands ws code t → Told c n t (Some b)
Recalled ms code None = Unit {0}

abbrev pub Remembered : List ℕ → List ℕ → ℕ → Best → Type 0
Remembered ms ms' code b = (c : ℕ → ℕ) (n : ℕ) (ws : List ℕ) → BestMemo c n ws ms → ((t : Tree) → Stands ws code t → Told c n t (Some b)) → BestMemo c n ws ms'

-- ---- the walk

-- the code stands for an ordered tree of the flip-flops that have costs
pub record Standing (ws costs : List ℕ) (code : ℕ) : Type 0 where
  pub tree : Tree
  pub stands : Stands ws code tree
  pub ordered : Ordered 0 tree
  pub under : Under (length costs) tree

-- the answer for whatever the code stands for
abbrev pub Walked : List ℕ → List ℕ → ℕ → prelude.Option Best → Type 0
Walked ws costs code r = (t : Tree) → Stands ws code t → Told (cost_of costs) (length costs) t r

-- S is the best set of what the code stands for, if there is one
abbrev pub LightestPromise : List ℕ → List ℕ → ℕ → ℕ → Type 0
LightestPromise ws costs code S = (t : Tree) (R : ℕ) → Stands ws code t → best (cost_of costs) (length costs) t ≡ some R → S ≡ R
