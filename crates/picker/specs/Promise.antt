-- What `pick` promises for every input. Assumes nothing.
use Rattle.std.specs.Prelude.{◌≡◌, List, ℕ, length, Result, Ok, Err}
use Rattle.std.proofs.Math.Option.{Option, none, some}
use Rattle.masks.specs.Sets.{number, weight}
use Rattle.graphs.specs.Graph.{edge, cost_of}
use Rattle.graphs.specs.Light.{Lightest}
use Rattle.graphs.specs.Refusals.{first, checks, number_of, place_of}
use Rattle.graphs.specs.declared.refusal.Refusal.{Refusal}
use Rattle.reduction.specs.Rules.{start, run}
use Rattle.nodes.specs.Rooms.{capacity, emptied, zeroed}
use Rattle.cycles.specs.Needs.{Answered, TooLarge}
use Rattle.picker.specs.declared.Picked.{Picked}

-- the rows "left by the stated reduction"
abbrev pub left_rows : List ℕ → List ℕ → List ℕ
left_rows rows costs = (run (cost_of costs) (length rows) (start rows)).left.rows

-- "the picked set meets every such loop of the graph as lent, no set that does has a smaller total cost, and of those of equal cost it has the smallest
-- mask"; "the node count reported with an answer is the largest need"
pub record Right (rows costs : List ℕ) (capacity set cost need : ℕ) : Type 0 where
  pub lightest : Lightest (cost_of costs) (length rows) (λ S. Unit {0}) (edge rows) set
  pub total : cost ≡ weight (cost_of costs) (length rows) set
  pub largest : Answered (edge (left_rows rows costs)) (length rows) capacity need

-- each case of an answer about a block that passes the checks: "Refusal for room comes exactly when some component left by the stated reduction needs more
-- nodes than the lent room has"
abbrev pub PickAnswer : List ℕ → List ℕ → ℕ → Result Picked Refusal → Type 0
PickAnswer rows costs capacity (Ok p) = Right rows costs capacity (number p.set) p.cost p.need
PickAnswer rows costs capacity (Err r) = (number_of r ≡ 4) × TooLarge (edge (left_rows rows costs)) (length rows) capacity (place_of r)

-- "pick 1, 2, 3, 4"; "Refusals other than 4 write nothing. After 4, and after each answer .. [both rooms] are all zero"
abbrev pub PickCases : Option Refusal → List ℕ → List ℕ → List ℕ → List ℕ → Result Picked Refusal → List ℕ → List ℕ → Type 0
PickCases (some r) rows costs nodes memo answer nodes' memo' = (answer ≡ Err r) × (nodes' ≡ nodes) × (memo' ≡ memo)
PickCases none rows costs nodes memo answer nodes' memo' = PickAnswer rows costs (capacity nodes) answer × (nodes' ≡ emptied nodes) × (memo' ≡ zeroed memo)

abbrev pub PickPromise : List ℕ → List ℕ → List ℕ → List ℕ → Result Picked Refusal → List ℕ → List ℕ → Type 0
PickPromise rows costs = PickCases (first (checks rows (length costs))) rows costs
