-- Any two answers that the promise allows are equal. Assumes nothing.
use mathlib.Core.Path.{◌≡◌, sym, ap, ◌∙◌}
use mathlib.Core.List.{List}
use Prim.Native.Nat.{ℕ}
use Rattle.std.specs.Prelude.{Result, Ok, Err, IfOk}
use Rattle.graphs.specs.Refusals.{refusal_of}
use Rattle.graphs.specs.declared.refusal.Refusal.{Refusal}
use Rattle.reduction.specs.declared.Reduced.{Reduced}
use Rattle.reduction.specs.Rules.{Run}
use Rattle.reduction.specs.Promise.{Returned, ReducePromise}
use Rattle.masks.proofs.Numbers.{number-inj}
use Rattle.reduction.proofs.Model.{reduce_model, model-meets}

returned-unique : (whole : Run) (a b : Reduced) → Returned whole a → Returned whole b → a ≡ b
returned-unique whole a b p q = λ i.
    record {
      count = (p.count ∙ sym q.count) i;
      steps = (p.steps ∙ sym q.steps) i;
      forced = number-inj a.forced b.forced (p.forced ∙ sym q.forced) i;
      live = number-inj a.live b.live (p.live ∙ sym q.live) i;
      rows = (p.rows ∙ sym q.rows) i;
    }

result-unique : (whole : Run) (a b : Result Reduced Refusal) → refusal_of a ≡ refusal_of b → IfOk a (Returned whole) → IfOk b (Returned whole) → a ≡ b
result-unique whole (Ok a) (Ok b) e p q = ap (λ x. Ok x) (returned-unique whole a b p q)
result-unique whole (Ok a) (Err s) e p q = cc e
result-unique whole (Err r) (Ok b) e p q = cc e
result-unique whole (Err r) (Err s) e p q =
    let same : r ≡ s = cc e in
    ap (λ x. Err x) same

pub reduce-unique : (rows costs : List ℕ) (limit : ℕ) (a b : Result Reduced Refusal) → ReducePromise rows costs limit a → ReducePromise rows costs limit b → a ≡ b
reduce-unique rows costs limit a b p q = result-unique _ a b (p.0 ∙ sym q.0) p.1 q.1

-- so an answer keeps the promise exactly where it is the model's
pub reduce-is : (rows costs : List ℕ) (limit : ℕ) (a : Result Reduced Refusal) → ReducePromise rows costs limit a → a ≡ reduce_model rows costs limit
reduce-is rows costs limit a p = reduce-unique rows costs limit a (reduce_model rows costs limit) p (model-meets rows costs limit)
