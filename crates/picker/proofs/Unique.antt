-- Any two answers of `pick`, with their rooms, that the promise allows are equal; so neither the memo room nor what the rooms held changes an answer.
-- Assumes nothing.
use mathlib.Core.Path.{◌≡◌, sym, ap, ◌∙◌}
use mathlib.Core.List.{List}
use mathlib.Core.Option.{Option, none, some}
use Prim.Native.Nat.{ℕ}
use lib.ListN.{length}
use Rattle.std.specs.Prelude.{Result, Ok, Err}
use Rattle.masks.specs.Sets.{number, weight}
use Rattle.graphs.specs.Graph.{edge, cost_of}
use Rattle.graphs.specs.Refusals.{first, checks, place_of}
use Rattle.graphs.specs.declared.refusal.Refusal.{Refusal}
use Rattle.graphs.proofs.Lightest.{lightest-unique}
use Rattle.graphs.proofs.Tables.{refusal-same}
use Rattle.masks.proofs.Numbers.{number-inj}
use Rattle.nodes.specs.Rooms.{capacity}
use Rattle.cycles.proofs.Fits.{answered-unique, too-large-unique, answered-or-too-large}
use Rattle.picker.specs.Promise.{left_rows, Right, PickAnswer, PickCases, PickPromise}
use Rattle.picker.specs.declared.Picked.{Picked}
use Rattle.picker.proofs.Model.{pick_model, nodes_model, memo_model, pick_meets}

module _ (rows costs : List ℕ) (room : ℕ) where
  set-unique : (a b : Picked) → Right rows costs room (number a.set) a.cost a.need → Right rows costs room (number b.set) b.cost b.need → a ≡ b
  set-unique a b p q =
      let e : number a.set ≡ number b.set = lightest-unique p.lightest q.lightest in
      let f : a.set ≡ b.set = number-inj a.set b.set e in
      let g : a.cost ≡ b.cost = p.total ∙ ap (weight (cost_of costs) (length rows)) e ∙ sym q.total in
      let h : a.need ≡ b.need = answered-unique (edge (left_rows rows costs)) (length rows) room a.need b.need p.largest q.largest in
      λ x. record { set = f x; cost = g x; need = h x }

  pub answer-unique : (a b : Result Picked Refusal) → PickAnswer rows costs room a → PickAnswer rows costs room b → a ≡ b
  answer-unique (Ok a) (Ok b) p q = ap Ok (set-unique a b p q)
  answer-unique (Ok a) (Err s) p q =
      absurd (answered-or-too-large (edge (left_rows rows costs)) (length rows) room a.need (place_of s) p.largest q.1)
  answer-unique (Err r) (Ok b) p q =
      absurd (answered-or-too-large (edge (left_rows rows costs)) (length rows) room b.need (place_of r) q.largest p.1)
  answer-unique (Err r) (Err s) p q =
      ap Err
      (refusal-same r s (p.0 ∙ sym q.0) (too-large-unique (edge (left_rows rows costs)) (length rows) room (place_of r) (place_of s) p.1 q.1))

pub pick-unique : (rows costs nodes memo : List ℕ) (a b : Result Picked Refusal) (nodes₁ nodes₂ memo₁ memo₂ : List ℕ)
    → PickPromise rows costs nodes memo a nodes₁ memo₁ → PickPromise rows costs nodes memo b nodes₂ memo₂ → (a ≡ b) × (nodes₁ ≡ nodes₂) × (memo₁ ≡ memo₂)
pick-unique rows costs nodes memo a b nodes₁ nodes₂ memo₁ memo₂ = go (first (checks rows (length costs)))
  where
    go : (o : Option Refusal) → PickCases o rows costs nodes memo a nodes₁ memo₁ → PickCases o rows costs nodes memo b nodes₂ memo₂
        → (a ≡ b) × (nodes₁ ≡ nodes₂) × (memo₁ ≡ memo₂)
    go (some r) p q = (p.0 ∙ sym q.0, p.1 ∙ sym q.1, p.2 ∙ sym q.2)
    go none p q = (answer-unique rows costs (capacity nodes) a b p.0 q.0, p.1 ∙ sym q.1, p.2 ∙ sym q.2)

-- so an answer that is allowed is the model's
pub pick_is : (rows costs nodes memo : List ℕ) (a : Result Picked Refusal) (nodes' memo' : List ℕ) → PickPromise rows costs nodes memo a nodes' memo'
    → (a ≡ pick_model rows costs (capacity nodes)) × (nodes' ≡ nodes_model rows costs nodes) × (memo' ≡ memo_model rows costs memo)
pick_is rows costs nodes memo a nodes' memo' p =
    pick-unique rows costs nodes memo a (pick_model rows costs (capacity nodes)) nodes' (nodes_model rows costs nodes) memo' (memo_model rows costs memo) p
    (pick_meets rows costs nodes memo)

-- "Neither the memo room's size nor what the rooms held before changes an answer": with rooms of one capacity, whatever they hold and whatever the memo
-- rooms are, the answers are equal
pub pick_same : (rows costs : List ℕ) (nodes₁ memo₁ nodes₂ memo₂ : List ℕ) (a b : Result Picked Refusal) (nodes₁' memo₁' nodes₂' memo₂' : List ℕ)
    → capacity nodes₁ ≡ capacity nodes₂ → PickPromise rows costs nodes₁ memo₁ a nodes₁' memo₁' → PickPromise rows costs nodes₂ memo₂ b nodes₂' memo₂' → a ≡ b
pick_same rows costs nodes₁ memo₁ nodes₂ memo₂ a b nodes₁' memo₁' nodes₂' memo₂' e p q =
    (pick_is rows costs nodes₁ memo₁ a nodes₁' memo₁' p).0 ∙ ap (pick_model rows costs) e ∙ sym (pick_is rows costs nodes₂ memo₂ b nodes₂' memo₂' q).0
