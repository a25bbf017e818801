-- Useless versions of `pick`, none of which keeps the promise: each is refuted by one input, or by two where what it does is fixed before it looks at the
-- input. Assumes nothing.
use mathlib.Core.Path.{◌≡◌, refl, sym, ap, ◌∙◌, subst}
use mathlib.Core.Logic.{◌⊎◌, inl, inr}
use mathlib.Core.List.{List, [], ◌∷◌}
use mathlib.Core.Option.{none}
use Prim.Native.Nat.{ℕ}
use native.Mathlib.Omega.{arith}
use lib.ListN.{length}
use Rattle.std.specs.Prelude.{Result, Ok, Err}
use Rattle.masks.specs.Sets.{number}
use Rattle.masks.specs.declared.Mask.{Mask}
use Rattle.graphs.specs.Graph.{edge, cost_of}
use Rattle.graphs.specs.Refusals.{first, checks}
use Rattle.graphs.specs.declared.refusal.Refusal.{Refusal}
use Rattle.graphs.proofs.Components.{components_of}
use Rattle.reduction.specs.Rules.{State, start, run}
use Rattle.masks.proofs.Numbers.{mask_of}
use Rattle.nodes.specs.Rooms.{capacity}
use Rattle.cycles.proofs.Fits.{fits, exceeds, fitting}
use Rattle.cycles.proofs.Blocks.{block_a}
use Rattle.picker.specs.Promise.{PickPromise}
use Rattle.picker.specs.declared.Picked.{Picked}
use Rattle.picker.proofs.Model.{chosen, pick_model, nodes_model, memo_model, pick_meets}
use Rattle.picker.proofs.Unique.{pick_is}
use Rattle.picker.proofs.Computing.{computing}
use Rattle.picker.proofs.Blocks.{pair, costs_a, set}

-- an answer with both rooms as they are left
pub record Outcome : Type 0 where
  pub answer : Result Picked Refusal
  pub nodes : List ℕ
  pub memo : List ℕ

-- rows, costs and both rooms as they are lent
abbrev pub Picker : Type 0
Picker = List ℕ → List ℕ → List ℕ → List ℕ → Outcome

-- f keeps the promise
abbrev pub Keeps : Picker → Type 0
Keeps f = (rows costs nodes memo : List ℕ)
    → PickPromise rows costs nodes memo (f rows costs nodes memo).answer (f rows costs nodes memo).nodes (f rows costs nodes memo).memo

-- so it is at every valid input: what f does with the others doesn't help it
abbrev pub Always : (List ℕ → List ℕ → List ℕ → List ℕ → Type 0) → Type 0
Always P = (rows costs nodes memo : List ℕ) → first (checks rows (length costs)) ≡ none → P rows costs nodes memo

-- where the answer is a set, its mask, cost and need are so
abbrev pub Says : (Mask → ℕ → ℕ → Type 0) → Result Picked Refusal → Type 0
Says P (Ok p) = P p.set p.cost p.need
Says P (Err r) = Unit {0}

-- the model keeps it
pub model-keeps : Keeps (λ rows costs nodes memo.
    record { answer = pick_model rows costs (capacity nodes); nodes = nodes_model rows costs nodes; memo = memo_model rows costs memo })
model-keeps = pick_meets

-- what the first step leaves
abbrev pub one_step : List ℕ → List ℕ → State
one_step rows costs = (run (cost_of costs) 1 (start rows)).left

-- S is the forced set then, alone or joined with the best sets of the components
abbrev pub OneStep : List ℕ → List ℕ → ℕ → Type 0
OneStep rows costs S =
    let s = one_step rows costs in
    (S ≡ s.forced) ⊎ (S ≡ chosen (cost_of costs) (length rows) s (components_of s.rows))

-- that is the need then
abbrev pub OneStepNeed : List ℕ → List ℕ → ℕ → ℕ → Type 0
OneStepNeed rows costs room need =
    let s = one_step rows costs in
    fitting (edge s.rows) (length rows) room (components_of s.rows) ≡ fits need

-- 0>1, 1>2, 2>0
abbrev ring : List ℕ
ring = 2 ∷ 4 ∷ 1 ∷ []

-- 0>1, 1>0: at the costs 5, 5 the set is {0}, at the costs 5, 4 it is {1}
pub record Worked : Type 0 where
  pub low : pick_model pair (5 ∷ 5 ∷ []) 0 ≡ set 1 5 0
  pub high : pick_model pair (5 ∷ 4 ∷ []) 0 ≡ set 2 4 0
  -- the ring of three at the costs 1 is folded into 0
  pub rest : pick_model ring (1 ∷ 1 ∷ 1 ∷ []) 0 ≡ set 1 1 0
  -- A needs 8 nodes, its flip-flops with no edge none
  pub edges : pick_model block_a costs_a 8 ≡ set 9 2 8
  pub bare : pick_model (0 ∷ 0 ∷ 0 ∷ 0 ∷ []) costs_a 8 ≡ set 0 0 0

pub worked : Worked
unfolding computing
worked = record { low = refl; high = refl; rest = refl; edges = refl; bare = refl }

module _ (f : Picker) (keeps : Keeps f) where
  is-model : (rows costs nodes memo : List ℕ) → (f rows costs nodes memo).answer ≡ pick_model rows costs (capacity nodes)
  is-model rows costs nodes memo =
      (pick_is rows costs nodes memo (f rows costs nodes memo).answer (f rows costs nodes memo).nodes (f rows costs nodes memo).memo
      (keeps rows costs nodes memo)).0

  -- one that always refuses
  pub not-refusing : Always (λ rows costs nodes memo. (r : Refusal) × ((f rows costs nodes memo).answer ≡ Err r)) → ⊥
  unfolding computing
  not-refusing h =
      let r = h pair (5 ∷ 5 ∷ []) [] [] refl in
      let e : Err r.0 ≡ set 1 5 0 = sym r.1 ∙ is-model pair (5 ∷ 5 ∷ []) [] [] ∙ worked.low in
      let z : ◌≡◌ {A = ℕ} 0 1 = cc in
      omega arith

  -- what f says of a set, it says of the model's
  said : (P : Mask → ℕ → ℕ → Type 0) (rows costs nodes memo : List ℕ) (answer : Result Picked Refusal) → pick_model rows costs (capacity nodes) ≡ answer
      → Says P (f rows costs nodes memo).answer → Says P answer
  said P rows costs nodes memo answer e h = subst (Says P) (is-model rows costs nodes memo ∙ e) h

  -- one that knows one set only
  pub not-constant : (S : Mask) → Always (λ rows costs nodes memo. Says (λ R k m. R ≡ S) (f rows costs nodes memo).answer) → ⊥
  unfolding computing
  not-constant S h =
      let p : mask_of 1 ≡ S = said (λ R k m. R ≡ S) pair (5 ∷ 5 ∷ []) [] [] (set 1 5 0) worked.low (h pair (5 ∷ 5 ∷ []) [] [] refl) in
      let q : mask_of 2 ≡ S = said (λ R k m. R ≡ S) pair (5 ∷ 4 ∷ []) [] [] (set 2 4 0) worked.high (h pair (5 ∷ 4 ∷ []) [] [] refl) in
      let z : ◌≡◌ {A = ℕ} 1 2 = ap (λ m. m.0) (p ∙ sym q) in
      omega arith

  -- one that leaves a room as lent
  pub not-idle : Always (λ rows costs nodes memo. ((f rows costs nodes memo).nodes ≡ nodes) ⊎ ((f rows costs nodes memo).memo ≡ memo)) → ⊥
  unfolding computing
  not-idle h = go (h [] [] (1 ∷ []) (1 ∷ []) refl)
    where
      o : Outcome
      o = f [] [] (1 ∷ []) (1 ∷ [])

      zero_one : (xs : List ℕ) → xs ≡ 1 ∷ [] → xs ≡ 0 ∷ [] → ⊥
      zero_one xs p q =
          let z : ◌≡◌ {A = ℕ} 0 1 = cc in
          omega arith

      go : (o.nodes ≡ 1 ∷ []) ⊎ (o.memo ≡ 1 ∷ []) → ⊥
      go (inl e) = zero_one o.nodes e (keeps [] [] (1 ∷ []) (1 ∷ [])).1
      go (inr e) = zero_one o.memo e (keeps [] [] (1 ∷ []) (1 ∷ [])).2

  -- one that makes the first reduction step and only claims the rest
  pub not-one-step : Always (λ rows costs nodes memo. Says (λ S k m. OneStep rows costs (number S)) (f rows costs nodes memo).answer) → ⊥
  unfolding computing number
  not-one-step h =
      go (said (λ S k m. OneStep pair (5 ∷ 5 ∷ []) (number S)) pair (5 ∷ 5 ∷ []) [] [] (set 1 5 0) worked.low (h pair (5 ∷ 5 ∷ []) [] [] refl))
    where
      go : ◌≡◌ {A = ℕ} 1 0 ⊎ ◌≡◌ {A = ℕ} 1 0 → ⊥
      go (inl e) = omega arith
      go (inr e) = omega arith

  -- and one whose need is that after the first step
  pub not-one-step-need : Always (λ rows costs nodes memo. Says (λ S k m. OneStepNeed rows costs (capacity nodes) m) (f rows costs nodes memo).answer) → ⊥
  unfolding computing
  not-one-step-need h =
      let e : exceeds 0 ≡ fits 0 =
      said (λ S k m. OneStepNeed ring (1 ∷ 1 ∷ 1 ∷ []) 0 m) ring (1 ∷ 1 ∷ 1 ∷ []) [] [] (set 1 1 0) worked.rest (h ring (1 ∷ 1 ∷ 1 ∷ []) [] [] refl) in
      let z : ◌≡◌ {A = ℕ} 0 1 = cc in
      omega arith

  -- one that makes up the need, without a look at the edges
  pub not-made-up : (g : ℕ → List ℕ → ℕ → ℕ)
      → Always (λ rows costs nodes memo. Says (λ S k m. m ≡ g (length rows) costs (capacity nodes)) (f rows costs nodes memo).answer) → ⊥
  unfolding computing
  not-made-up g h =
      let room : List ℕ = 0 ∷ 0 ∷ 0 ∷ 0 ∷ 0 ∷ 0 ∷ 0 ∷ 0 ∷ [] in
      let none : List ℕ = 0 ∷ 0 ∷ 0 ∷ 0 ∷ [] in
      let p : 8 ≡ g 4 costs_a 8 = said (λ S k m. m ≡ g 4 costs_a 8) block_a costs_a room [] (set 9 2 8) worked.edges (h block_a costs_a room [] refl) in
      let q : 0 ≡ g 4 costs_a 8 = said (λ S k m. m ≡ g 4 costs_a 8) none costs_a room [] (set 0 0 0) worked.bare (h none costs_a room [] refl) in
      omega arith
