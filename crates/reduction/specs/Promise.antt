-- What `reduce` promises for every input. Assumes nothing.
use Rattle.std.specs.Prelude.{◌≡◌, List, ◌++◌, ℕ, ◌-◌, length, replicate, Result, IfOk}
use Rattle.masks.specs.Sets.{number}
use Rattle.graphs.specs.Graph.{cost_of}
use Rattle.graphs.specs.Refusals.{first, checks, refusal_of}
use Rattle.graphs.specs.declared.refusal.Refusal.{Refusal}
use Rattle.reduction.specs.declared.Step.{Step}
use Rattle.reduction.specs.declared.Done.TheVariants.{Dropped}
use Rattle.reduction.specs.declared.Reduced.{Reduced}
use Rattle.reduction.specs.Rules.{Run, start, run, recorded}

-- a list of 64, filled up
abbrev pub filled : {A : Type 0} → A → List A → List A
filled blank xs = xs ++ replicate (64 - length xs) blank

-- "places past the last hold flip-flop 0, dropped"
abbrev pub blank : Step
blank = recorded 0 Dropped

-- "It returns the number of steps, the steps in order .., the forced set, live set and rows, in which only edges among live flip-flops stand"
pub record Returned (whole : Run) (answer : Reduced) : Type 0 where
  pub count : answer.count ≡ length whole.steps
  pub steps : answer.steps ≡ filled blank whole.steps
  pub forced : number answer.forced ≡ whole.left.forced
  pub live : number answer.live ≡ whole.left.live
  pub rows : answer.rows ≡ filled 0 whole.left.rows

-- "reduction 1, 2, 3", and nothing else after a refusal
abbrev pub ReducePromise : List ℕ → List ℕ → ℕ → Result Reduced Refusal → Type 0
ReducePromise rows costs limit answer =
    (refusal_of answer ≡ first (checks rows (length costs))) × IfOk answer (λ reduced. Returned (run (cost_of costs) limit (start rows)) reduced)
