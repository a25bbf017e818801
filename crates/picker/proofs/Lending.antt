-- The answer in each case of the checks, and what both rooms hold at the end. Assumes nothing.
use mathlib.Core.Path.{◌≡◌, refl, sym, ap, ◌∙◌, subst}
use mathlib.Core.List.{List, ◌++◌}
use Prim.Native.Nat.{ℕ}
use lib.ListN.{length, take, drop, replicate}
use mathlib.Core.Option.{none, some}
use Rattle.std.specs.Prelude.{Result, Ok, Err}
use Rattle.std.specs.Result.{IsErrAnd}
use Rattle.graphs.specs.Refusals.{first, checks}
use Rattle.graphs.specs.declared.refusal.Refusal.{Refusal}
use Rattle.nodes.specs.Rooms.{capacity, emptied, zeroed}
use Rattle.nodes.proofs.Clearing.{front_length, lent-emptied}
use Rattle.picker.specs.Promise.{PickAnswer, PickCases, PickPromise}
use Rattle.picker.specs.declared.Picked.{Picked}

pub refused : (rows costs nodes memo : List ℕ) (r : Refusal) → first (checks rows (length costs)) ≡ some r → PickPromise rows costs nodes memo (Err r) nodes memo
refused rows costs nodes memo r e = subst (λ o. PickCases o rows costs nodes memo (Err r) nodes memo) (sym e) (refl, refl, refl)

-- an answer that is the error x
pub error-is : (r : Result Picked Refusal) (x : Refusal) → IsErrAnd r (λ y. y ≡ x) → r ≡ Err x
error-is (Ok a) x h = absurd h
error-is (Err y) x h = ap Err h

-- the first n words of the node room were lent: those that count
pub answered : (rows costs : List ℕ) → first (checks rows (length costs)) ≡ none → (nodes memo : List ℕ) (r : Result Picked Refusal) (n : ℕ)
    (front nodes' memo₁ memo' : List ℕ) → n ≡ capacity nodes → length front ≡ length (take n nodes) → PickAnswer rows costs (length (take n nodes)) r
    → length memo₁ ≡ length memo → nodes' ≡ emptied (front ++ drop n nodes) → memo' ≡ zeroed memo₁ → PickPromise rows costs nodes memo r nodes' memo'
answered rows costs valid nodes memo r n front nodes' memo₁ memo' k l a m x y =
    subst (λ o. PickCases o rows costs nodes memo r nodes' memo') (sym valid) (
      subst (λ j. PickAnswer rows costs j r) (sym (front_length nodes n k) ∙ k) a,
      x ∙ lent-emptied nodes front n k l,
      y ∙ ap (λ j. replicate j 0) m,
    )
