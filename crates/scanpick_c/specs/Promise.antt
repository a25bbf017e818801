-- What each function for C promises for every input: the promise of its operation, with the answer as numbers in `out`. Assumes nothing.
use Rattle.std.specs.Prelude.{◌≡◌, List, [], ◌∷◌, map, replicate, ℕ, ◌+◌, ◌*◌, Result, Ok, Err}
use Rattle.masks.specs.Sets.{number, pick}
use Rattle.graphs.specs.Refusals.{number_of, place_of}
use Rattle.graphs.specs.declared.refusal.Refusal.{Refusal}
use Rattle.reduction.specs.Promise.{ReducePromise}
use Rattle.reduction.specs.declared.Reduced.{Reduced}
use Rattle.reduction.specs.declared.Step.{Step}
use Rattle.reduction.specs.declared.Done.{Done}
use Rattle.reduction.specs.declared.Done.TheVariants.{Forced, Dropped, Folded}
use Rattle.cycles.specs.Promise.{AskPromise}
use Rattle.cycles.specs.declared.Asked.{Asked}
use Rattle.picker.specs.Promise.{PickPromise}
use Rattle.picker.specs.declared.Picked.{Picked}
use Rattle.blockfile.specs.Promise.{ReadPromise, WritePromise}

-- ---- each answer as numbers

-- no number, no place and the results; or "A refusal gives its number and place and zero in every other result", of which there are k
abbrev pub answer_words : {A : Type 0} → ℕ → (A → List ℕ) → Result A Refusal → List ℕ
answer_words k results (Ok a) = 0 ∷ 0 ∷ results a
answer_words k results (Err r) = number_of r ∷ place_of r ∷ replicate k 0

-- number, place, mask, cost, need
abbrev pub pick_words : Result Picked Refusal → List ℕ
pick_words = answer_words 3 (λ p. number p.set ∷ p.cost ∷ p.need ∷ [])

-- number, place, yes, need
abbrev pub ask_words : Result Asked Refusal → List ℕ
ask_words = answer_words 2 (λ a. pick a.holds 1 0 ∷ a.need ∷ [])

-- number, place, count, forced, live
abbrev pub reduce_words : Result Reduced Refusal → List ℕ
reduce_words = answer_words 3 (λ r. r.count ∷ number r.forced ∷ number r.live ∷ [])

-- number, place, n
abbrev pub read_words : Result ℕ Refusal → List ℕ
read_words = answer_words 1 (λ n. n ∷ [])

-- number, place, length
abbrev pub write_words : Result ℕ Refusal → List ℕ
write_words = answer_words 1 (λ n. n ∷ [])

-- a step: 0 dropped, 1 forced, 2 folded; the neighbour that a folded one went to; and both with the flip-flop
abbrev pub kind : Done → ℕ
kind Dropped = 0
kind Forced = 1
kind (Folded u) = 2

abbrev pub neighbour : Done → ℕ
neighbour Dropped = 0
neighbour Forced = 0
neighbour (Folded u) = u.0

abbrev pub step_word : Step → ℕ
step_word s = s.vertex.0 + 256 * kind s.done + 65536 * neighbour s.done

-- "steps" and "left": all zero after a refusal
abbrev pub steps_words : Result Reduced Refusal → List ℕ
steps_words (Ok r) = map step_word r.steps
steps_words (Err r) = replicate 64 0

abbrev pub left_words : Result Reduced Refusal → List ℕ
left_words (Ok r) = r.rows
left_words (Err r) = replicate 64 0

-- ---- the promises

abbrev pub PickGives : List ℕ → List ℕ → List ℕ → List ℕ → List ℕ → List ℕ → List ℕ → Type 0
PickGives rows costs nodes memo nodes' memo' out =
    (answer : Result Picked Refusal) × PickPromise rows costs nodes memo answer nodes' memo' × (out ≡ pick_words answer)

abbrev pub AskGives : List ℕ → ℕ → List ℕ → List ℕ → List ℕ → List ℕ → List ℕ → Type 0
AskGives rows kept nodes memo nodes' memo' out =
    (answer : Result Asked Refusal) × AskPromise rows kept nodes memo answer nodes' memo' × (out ≡ ask_words answer)

-- "steps" and "left" beside the other numbers
pub record ReduceGives (rows costs : List ℕ) (limit : ℕ) (out steps left : List ℕ) : Type 0 where
  pub answer : Result Reduced Refusal
  pub promised : ReducePromise rows costs limit answer
  pub words : out ≡ reduce_words answer
  pub made : steps ≡ steps_words answer
  pub still : left ≡ left_words answer

abbrev pub ReadGives : List ℕ → List ℕ → List ℕ → List ℕ → List ℕ → List ℕ → Type 0
ReadGives file costs rows costs' rows' out =
    (answer : Result ℕ Refusal) × ReadPromise file costs rows answer costs' rows' × (out ≡ read_words answer)

abbrev pub WriteGives : List ℕ → List ℕ → List ℕ → List ℕ → List ℕ → Type 0
WriteGives rows costs file file' out = (answer : Result ℕ Refusal) × WritePromise rows costs file answer file' × (out ≡ write_words answer)
