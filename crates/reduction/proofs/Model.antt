-- The whole answer as a function, and that it keeps the promise for every input. Assumes nothing.
use mathlib.Core.Path.{refl}
use mathlib.Core.List.{List}
use mathlib.Core.Option.{Option, none, some}
use Prim.Native.Nat.{ℕ}
use lib.ListN.{length}
use Rattle.std.specs.Prelude.{Result, Ok, Err, IfOk, ◌≡◌}
use Rattle.graphs.specs.Graph.{cost_of}
use Rattle.graphs.specs.Refusals.{first, checks, refusal_of}
use Rattle.graphs.specs.declared.refusal.Refusal.{Refusal}
use Rattle.reduction.specs.declared.Reduced.{Reduced}
use Rattle.reduction.specs.Rules.{Run, start, run}
use Rattle.reduction.specs.Promise.{filled, blank, Returned, ReducePromise}
use Rattle.masks.proofs.Numbers.{mask_of, mask_of-number}

-- the answer that tells a run
abbrev pub answer : Run → Reduced
answer whole =
    record {
      count = length whole.steps;
      steps = filled blank whole.steps;
      forced = mask_of whole.left.forced;
      live = mask_of whole.left.live;
      rows = filled 0 whole.left.rows;
    }

pub answer-returned : (whole : Run) → Returned whole (answer whole)
answer-returned whole =
    record { count = refl; steps = refl; forced = mask_of-number whole.left.forced; live = mask_of-number whole.left.live; rows = refl }

-- the refusal, or else the answer
abbrev pub result_of : {A : Type 0} → Option Refusal → A → Result A Refusal
result_of none a = Ok a
result_of (some r) a = Err r

-- rows, costs, limit
unfoldable pub reduce_model : List ℕ → List ℕ → ℕ → Result Reduced Refusal
reduce_model rows costs limit = result_of (first (checks rows (length costs))) (answer (run (cost_of costs) limit (start rows)))

pub model-meets : (rows costs : List ℕ) (limit : ℕ) → ReducePromise rows costs limit (reduce_model rows costs limit)
unfolding reduce_model
model-meets rows costs limit = go (first (checks rows (length costs)))
  where
    whole : Run
    whole = run (cost_of costs) limit (start rows)

    go : (o : Option Refusal) → (refusal_of (result_of o (answer whole)) ≡ o) × IfOk (result_of o (answer whole)) (Returned whole)
    go none = (refl, answer-returned whole)
    go (some r) = (refl, search)
