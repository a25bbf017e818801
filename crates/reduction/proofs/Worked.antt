-- Blocks whose answer is computed: block A, the two flip-flops that point at each other, no flip-flop, and a refusal of each number. Assumes nothing.
use mathlib.Core.Path.{◌≡◌, refl}
use mathlib.Core.List.{List, [], ◌∷◌}
use Rattle.std.specs.Prelude.{Result, Ok, Err}
use Prim.Native.Nat.{ℕ}
use lib.Count.{ones}
use lib.ListN.{replicate}
use Rattle.masks.specs.Sets.{bit, put, cut, those, lowest}
use Rattle.graphs.specs.Graph.{plain_from}
use Rattle.graphs.specs.declared.refusal.Refusal.{Refusal}
use Rattle.graphs.specs.declared.refusal.Refusal.TheVariants.{TooManyRows, UnequalCosts, RowOutside}
use Rattle.reduction.specs.declared.Step.{Step}
use Rattle.reduction.specs.declared.Reduced.{Reduced}
use Rattle.reduction.specs.declared.Done.TheVariants.{Forced, Dropped, Folded}
use Rattle.reduction.specs.Rules.{next, run, recorded}
use Rattle.reduction.proofs.Model.{answer, reduce_model}

-- an answer where nothing is refused: live and forced set, rows, steps
abbrev pub answered : ℕ → ℕ → List ℕ → List Step → Result Reduced Refusal
answered live forced rows steps = Ok (answer (record { left = record { live = live; forced = forced; rows = rows }; steps = steps }))

-- a refusal
abbrev pub refused : Refusal → Result Reduced Refusal
refused r = Err r

-- block A: "The one step folds 2 into 1"
pub block-A : reduce_model (2 ∷ 4 ∷ 9 ∷ 2 ∷ []) (1 ∷ 5 ∷ 5 ∷ 1 ∷ []) 64 ≡ answered 11 0 (2 ∷ 9 ∷ 0 ∷ 2 ∷ []) (recorded 2 (Folded (record { 0 = 1 })) ∷ [])
unfolding reduce_model run next lowest those bit put cut plain_from ones
block-A = refl

-- 0>1, 1>0, costs 5, 5: 1 is folded into 0, which then has an edge to itself
pub two : reduce_model (2 ∷ 1 ∷ []) (5 ∷ 5 ∷ []) 64 ≡ answered 0 1 (0 ∷ 0 ∷ []) (recorded 1 (Folded (record { 0 = 0 })) ∷ recorded 0 Forced ∷ [])
unfolding reduce_model run next lowest those bit put cut plain_from ones
two = refl

-- with one step only, that edge stands in the rows
pub two-limit-1 : reduce_model (2 ∷ 1 ∷ []) (5 ∷ 5 ∷ []) 1 ≡ answered 1 0 (1 ∷ 0 ∷ []) (recorded 1 (Folded (record { 0 = 0 })) ∷ [])
unfolding reduce_model run next lowest those bit put cut plain_from ones
two-limit-1 = refl

-- "a limit of 0 only drops self edges"
pub two-limit-0 : reduce_model (3 ∷ 1 ∷ []) (5 ∷ 5 ∷ []) 0 ≡ answered 3 0 (2 ∷ 1 ∷ []) []
unfolding reduce_model run next lowest those bit put cut plain_from ones
two-limit-0 = refl

-- 0>1, 0>2, 1>0, 1>2, 2>0, costs 2, 1, 3: rule 3 applies nowhere, and 2 is folded into its one out-neighbour
pub out-fold : reduce_model (6 ∷ 5 ∷ 1 ∷ []) (2 ∷ 1 ∷ 3 ∷ []) 1 ≡ answered 3 0 (3 ∷ 1 ∷ 0 ∷ []) (recorded 2 (Folded (record { 0 = 0 })) ∷ [])
unfolding reduce_model run next lowest those bit put cut plain_from ones
out-fold = refl

-- rule 3 before rule 4, on the lowest flip-flop: the ring of three, costs 1
pub ring : reduce_model (2 ∷ 4 ∷ 1 ∷ []) (1 ∷ 1 ∷ 1 ∷ []) 64
    ≡ answered 0 1 (0 ∷ 0 ∷ 0 ∷ []) (recorded 1 (Folded (record { 0 = 0 })) ∷ recorded 2 (Folded (record { 0 = 0 })) ∷ recorded 0 Forced ∷ [])
unfolding reduce_model run next lowest those bit put cut plain_from ones
ring = refl

-- rule 2 before rule 3: 0>1, 1>2, 2>1, costs 1
pub drop-first : reduce_model (2 ∷ 4 ∷ 2 ∷ []) (1 ∷ 1 ∷ 1 ∷ []) 2
    ≡ answered 2 0 (0 ∷ 2 ∷ 0 ∷ []) (recorded 0 Dropped ∷ recorded 2 (Folded (record { 0 = 1 })) ∷ [])
unfolding reduce_model run next lowest those bit put cut plain_from ones
drop-first = refl

-- no flip-flop
pub empty : reduce_model [] [] 64 ≡ answered 0 0 [] []
unfolding reduce_model run next lowest those bit put cut plain_from ones
empty = refl

-- refusals: 65 rows; two rows and one cost; row 1 of two rows with the bit 2
pub refusal-1 : reduce_model (replicate 65 0) [] 64 ≡ refused TooManyRows
unfolding reduce_model run next lowest those bit put cut plain_from ones
refusal-1 = refl

pub refusal-2 : reduce_model (2 ∷ 1 ∷ []) (5 ∷ []) 64 ≡ refused UnequalCosts
unfolding reduce_model run next lowest those bit put cut plain_from ones
refusal-2 = refl

pub refusal-3 : reduce_model (2 ∷ 5 ∷ []) (5 ∷ 5 ∷ []) 64 ≡ refused (RowOutside 1)
unfolding reduce_model run next lowest those bit put cut plain_from ones
refusal-3 = refl
