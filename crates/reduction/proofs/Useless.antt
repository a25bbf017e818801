-- Five useless operations, none of which keeps the promise: each is refuted by one input, or by two where its answer is fixed before it looks at the input.
-- Assumes nothing.
use mathlib.Core.Path.{◌≡◌, refl, sym, ap, ◌∙◌, subst}
use mathlib.Core.List.{List, [], ◌∷◌}
use Prim.Native.Nat.{ℕ, min}
use native.Mathlib.Omega.{arith}
use Rattle.std.specs.Prelude.{Result, Ok, Err, IfOk}
use lib.Count.{ones}
use lib.ListN.{length, get_or}
use Rattle.masks.specs.Sets.{bit, put, cut, those, lowest, number}
use Rattle.graphs.specs.Graph.{plain_from}
use Rattle.graphs.specs.Work.{Passes}
use Rattle.graphs.specs.declared.refusal.Refusal.{Refusal}
use Rattle.reduction.specs.declared.Reduced.{Reduced}
use Rattle.reduction.specs.Rules.{start, next, run}
use Rattle.reduction.specs.Promise.{ReducePromise}
use Rattle.reduction.proofs.Model.{reduce_model}
use Rattle.reduction.proofs.Unique.{reduce-is}
use Rattle.reduction.proofs.Worked.{two, empty}

-- f keeps the promise
abbrev pub Keeps : (List ℕ → List ℕ → ℕ → Result Reduced Refusal) → Type 0
Keeps f = (rows costs : List ℕ) (limit : ℕ) → ReducePromise rows costs limit (f rows costs limit)

-- the number of steps of an answer, 0 where it is none
abbrev count_of : Result Reduced Refusal → ℕ
count_of (Ok a) = a.count
count_of (Err r) = 0

-- 0>1, 1>0, costs 5, 5, in which two steps are made
abbrev rows2 : List ℕ
rows2 = 2 ∷ 1 ∷ []

abbrev costs2 : List ℕ
costs2 = 5 ∷ 5 ∷ []

-- each f is taken for useless by what it does with the inputs that pass, also if it refuses where it likes: what it does with the others doesn't help it
module _ (f : List ℕ → List ℕ → ℕ → Result Reduced Refusal) where
  is-model : Keeps f → (rows costs : List ℕ) (limit : ℕ) → f rows costs limit ≡ reduce_model rows costs limit
  is-model k rows costs limit = reduce-is rows costs limit (f rows costs limit) (k rows costs limit)

  -- what f's answer is said to be, the model's is
  said : {a : Reduced} (P : Reduced → Type 0) → Keeps f → (rows costs : List ℕ) (limit : ℕ) → reduce_model rows costs limit ≡ Ok a
      → IfOk (f rows costs limit) P → P a
  said P k rows costs limit e h = subst (λ r. IfOk r P) (is-model k rows costs limit ∙ e) h

  -- one that always refuses
  pub not-refusing : ((rows costs : List ℕ) (limit : ℕ) → Passes rows costs → (r : Refusal) × (f rows costs limit ≡ Err r)) → Keeps f → ⊥
  unfolding lowest
  not-refusing h k =
      let p = h [] [] 64 refl in
      subst (λ r. IfOk r (λ a. ⊥)) (sym p.1 ∙ is-model k [] [] 64 ∙ empty) tt

  -- one that answers the same whatever it is asked
  pub not-constant : (a : Result Reduced Refusal) → ((rows costs : List ℕ) (limit : ℕ) → Passes rows costs → f rows costs limit ≡ a) → Keeps f → ⊥
  unfolding lowest
  not-constant a h k =
      let p : count_of a ≡ 0 = ap count_of (sym (h [] [] 64 refl) ∙ is-model k [] [] 64 ∙ empty) in
      let q : count_of a ≡ 2 = ap count_of (sym (h rows2 costs2 64 refl) ∙ is-model k rows2 costs2 64 ∙ two) in
      omega arith

  -- one that makes no step
  pub not-idle : ((rows costs : List ℕ) (limit : ℕ) → Passes rows costs → IfOk (f rows costs limit) (λ a. a.count ≡ 0)) → Keeps f → ⊥
  unfolding lowest
  not-idle h k =
      let z : ◌≡◌ {A = ℕ} 2 0 = said (λ a. a.count ≡ 0) k rows2 costs2 64 two (h rows2 costs2 64 refl) in
      omega arith

  -- one that makes the first step and no other, whatever it claims: its live set is that after one step
  pub not-one-step : ((rows costs : List ℕ) (limit : ℕ) → Passes rows costs
      → IfOk (f rows costs limit) (λ a. number a.live ≡ (run (λ v. get_or costs v 0) (min limit 1) (start rows)).left.live)) → Keeps f → ⊥
  unfolding run next lowest those bit put cut plain_from ones number
  not-one-step h k =
      let z : ◌≡◌ {A = ℕ} 0 1 = said (λ a. number a.live ≡ 1) k rows2 costs2 64 two (h rows2 costs2 64 refl) in
      omega arith

  -- one that makes up the number of steps, without a look at the edges: of three flip-flops none goes where all edges stand, and all go where none does
  pub not-made-up : (g : ℕ → List ℕ → ℕ → ℕ)
      → ((rows costs : List ℕ) (limit : ℕ) → Passes rows costs → IfOk (f rows costs limit) (λ a. a.count ≡ g (length rows) costs limit)) → Keeps f → ⊥
  unfolding reduce_model run next lowest those bit put cut plain_from ones
  not-made-up g h k =
      let all : List ℕ = 6 ∷ 5 ∷ 3 ∷ [] in
      let bare : List ℕ = 0 ∷ 0 ∷ 0 ∷ [] in
      let costs : List ℕ = 1 ∷ 1 ∷ 1 ∷ [] in
      let p : ◌≡◌ {A = ℕ} 0 (g 3 costs 64) = said (λ a. a.count ≡ g 3 costs 64) k all costs 64 refl (h all costs 64 refl) in
      let q : ◌≡◌ {A = ℕ} 3 (g 3 costs 64) = said (λ a. a.count ≡ g 3 costs 64) k bare costs 64 refl (h bare costs 64 refl) in
      omega arith
