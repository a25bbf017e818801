-- Useless versions of the question that the promise shuts out, each by one or two inputs: one that refuses always, one with a constant answer, one that
-- leaves the rooms as lent, one that makes one pass only, and one that makes up the need. Shown by the answers that the model computes there, since the
-- promise allows no other. Assumes nothing.
use mathlib.Core.Path.{◌≡◌, refl, sym, ap, ◌∙◌}
use mathlib.Core.Bool.{Bool, false, ◌||◌}
use mathlib.Core.List.{List, [], ◌∷◌}
use mathlib.Core.Option.{Option, none, some}
use Prim.Native.Nat.{ℕ}
use native.Mathlib.Omega.{arith}
use Rattle.std.proofs.lemmas.Bool.{false≢true}
use lib.ListN.{length, replicate}
use Rattle.masks.specs.Sets.{lowest}
use Rattle.graphs.specs.Graph.{edge}
use Rattle.graphs.specs.Components.{inside}
use Rattle.graphs.specs.Refusals.{first}
use Rattle.graphs.specs.declared.refusal.Refusal.{Refusal}
use Rattle.graphs.proofs.Components.{components_of}
use Rattle.nodes.specs.Rooms.{capacity}
use Rattle.cycles.specs.Search.{back_of}
use Rattle.cycles.specs.Passes.{within, F, result}
use Rattle.cycles.specs.Promise.{ask_lines, AskPromise}
use Rattle.cycles.specs.declared.Asked.{Asked}
use Rattle.std.specs.Prelude.{Result, Ok, Err}
use Rattle.cycles.proofs.Fits.{fitting}
use Rattle.cycles.proofs.Asks.{answer_by, ask_model, nodes_model, memo_model, ask-is}
use Rattle.cycles.proofs.Blocks.{block_a, yes_with, no_with, computed, answers}

-- a way to answer: from rows, kept mask and both rooms to the answer and both rooms
abbrev pub Asker : Type 0
Asker = List ℕ → ℕ → List ℕ → List ℕ → Result Asked Refusal × List ℕ × List ℕ

-- what an answer says
holds_of : Result Asked Refusal → Bool
holds_of (Ok a) = a.holds
holds_of (Err r) = false

need_of : Result Asked Refusal → ℕ
need_of (Ok a) = a.need
need_of (Err r) = 0

-- it keeps the promise for every input
abbrev pub Keeps : Asker → Type 0
Keeps f =
    (rows : List ℕ) (kept : ℕ) (nodes memo : List ℕ)
    → AskPromise rows kept nodes memo (f rows kept nodes memo).0 (f rows kept nodes memo).1 (f rows kept nodes memo).2

-- a room of 15 words
abbrev room : List ℕ
room = replicate 15 0

module _ (f : Asker) (keeps : Keeps f) where
  -- what it answers is what the model does
  pub says : (rows : List ℕ) (kept : ℕ) (nodes memo : List ℕ) → (f rows kept nodes memo).0 ≡ ask_model rows kept (capacity nodes)
  says rows kept nodes memo =
      (ask-is rows kept nodes memo (f rows kept nodes memo).0 (f rows kept nodes memo).1 (f rows kept nodes memo).2 (keeps rows kept nodes memo)).0

  -- it does not refuse always
  pub refuses-always : ((rows : List ℕ) (kept : ℕ) (nodes memo : List ℕ) → (r : Refusal) × ((f rows kept nodes memo).0 ≡ Err r)) → ⊥
  refuses-always always =
      let r = always [] 0 [] [] in
      let e : Err r.0 ≡ no_with 0 = sym r.1 ∙ says [] 0 [] [] ∙ answers.empty in
      let z : ◌≡◌ {A = ℕ} 0 1 = cc in
      omega arith

  -- it has no constant answer
  pub constant-answer : (a : Result Asked Refusal) → ((rows : List ℕ) (kept : ℕ) (nodes memo : List ℕ) → (f rows kept nodes memo).0 ≡ a) → ⊥
  unfolding holds_of
  constant-answer a const =
      let no_loop : a ≡ no_with 15 = sym (const block_a 6 room []) ∙ says block_a 6 room [] ∙ answers.a-full-no in
      let loop : a ≡ yes_with 15 = sym (const block_a 7 room []) ∙ says block_a 7 room [] ∙ answers.a-full in
      false≢true (ap holds_of (sym no_loop ∙ loop))

  -- nor a constant yes, whatever the need
  pub never-no : ((rows : List ℕ) (kept : ℕ) (nodes memo : List ℕ) (m : ℕ) → (f rows kept nodes memo).0 ≡ no_with m → ⊥) → ⊥
  never-no h = h block_a 6 room [] 15 (says block_a 6 room [] ∙ answers.a-full-no)

  -- it does not leave the node room as lent, nor the memo room
  pub leaves-nodes : ((rows : List ℕ) (kept : ℕ) (nodes memo : List ℕ) → (f rows kept nodes memo).1 ≡ nodes) → ⊥
  unfolding lowest
  leaves-nodes same =
      let e : ◌≡◌ {A = List ℕ} (1 ∷ []) (0 ∷ []) = sym (same [] 0 (1 ∷ []) []) ∙ (keeps [] 0 (1 ∷ []) []).1 in
      let z : ◌≡◌ {A = ℕ} 1 0 = cc in
      omega arith

  pub leaves-memo : ((rows : List ℕ) (kept : ℕ) (nodes memo : List ℕ) → (f rows kept nodes memo).2 ≡ memo) → ⊥
  unfolding lowest
  leaves-memo same =
      let e : ◌≡◌ {A = List ℕ} (1 ∷ []) (0 ∷ []) = sym (same [] 0 [] (1 ∷ [])) ∙ (keeps [] 0 [] (1 ∷ [])).2 in
      let z : ◌≡◌ {A = ℕ} 1 0 = cc in
      omega arith

  -- the need that it reports goes by more than the number of flip-flops and the capacity
  pub makes-up-need : (g : ℕ → ℕ → ℕ)
      → ((rows : List ℕ) (kept : ℕ) (nodes memo : List ℕ) (m : ℕ) → (f rows kept nodes memo).0 ≡ no_with m → m ≡ g (length rows) (capacity nodes)) → ⊥
  makes-up-need g made =
      let p : 15 ≡ g 4 15 = made block_a 6 room [] 15 (says block_a 6 room [] ∙ answers.a-full-no) in
      let q : 0 ≡ g 4 15 = made (0 ∷ 0 ∷ 0 ∷ 0 ∷ []) 6 room [] 0 (says (0 ∷ 0 ∷ 0 ∷ 0 ∷ []) 6 room [] ∙ answers.no_edges) in
      omega arith

  -- nor can it be off by any amount
  pub wrong-need : (m : ℕ) → (f block_a 7 room []).0 ≡ yes_with m → m ≡ 15
  unfolding need_of
  wrong-need m e =
      ap need_of (sym e ∙ says block_a 7 room [] ∙ answers.a-full)

-- ---- one pass only

-- whether a component's result after k passes is 1
abbrev pub held_after : ℕ → (ℕ → ℕ → Bool) → ℕ → List ℕ → ℕ → Bool
held_after k E n [] K = false
held_after k E n (C ∷ Cs) K = result (inside E C) n (back_of E n C) k K || held_after k E n Cs K

-- all as the model has it, but for the number of passes
abbrev pub one_pass_by : Option Refusal → List ℕ → ℕ → ℕ → Result Asked Refusal
one_pass_by (some r) rows kept size = Err r
one_pass_by none rows kept size =
    let Cs : List ℕ = components_of rows in
    answer_by (fitting (edge rows) (length rows) size Cs) (held_after 1 (edge rows) (length rows) Cs kept)

pub one_pass : Asker
one_pass rows kept nodes memo =
    (one_pass_by (first (ask_lines rows kept)) rows kept (capacity nodes), nodes_model rows kept nodes, memo_model rows kept memo)

-- of block A with 1 and 2 kept it says that they hold a loop, since pass 1 takes 3, which is in B, for kept
pub one-pass-says : (one_pass block_a 6 room []).0 ≡ yes_with 15
unfolding one_pass within F result computed
one-pass-says = refl

pub one-pass-only : Keeps one_pass → ⊥
unfolding holds_of
one-pass-only keeps =
    let e : yes_with 15 ≡ no_with 15 = sym one-pass-says ∙ says one_pass keeps block_a 6 room [] ∙ answers.a-full-no in
    false≢true (ap holds_of (sym e))
