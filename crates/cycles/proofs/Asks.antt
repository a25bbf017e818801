-- The question about a kept set: a function on numbers and trees that computes the whole answer, that it meets the promise for every input, and that any
-- two answers, with their rooms, that the promise allows are equal. Assumes nothing.
use mathlib.Core.Path.{◌≡◌, refl, sym, ap, ◌∙◌, subst}
use mathlib.Core.Logic.Iff
use mathlib.Core.Logic.{inl, inr, ⊎_elim, ◌↔◌}
use mathlib.Core.Bool.{Bool, false, ◌||◌}
use mathlib.Core.List.{List, [], ◌∷◌}
use mathlib.Core.Option.{Option, none, some}
use Prim.Native.Nat.{ℕ}
use lib.Dec.{T}
use lib.ListN.{length}
use Rattle.masks.specs.Sets.{bit}
use Rattle.masks.proofs.Tests.{T-or, or_l, or_r, iff-eq}
use Rattle.graphs.specs.Graph.{edge, Of, Loop}
use Rattle.graphs.specs.Components.{Component, Components, inside}
use Rattle.graphs.specs.Refusals.{first, too_many, outside}
use Rattle.std.specs.Prelude.{Result, Ok, Err}
use Rattle.graphs.specs.Refusals.{place_of}
use Rattle.graphs.specs.declared.refusal.Refusal.{Refusal}
use Rattle.graphs.specs.declared.refusal.Refusal.TheVariants.{RoomTooSmall}
use Rattle.graphs.proofs.Loops.{RowsFit}
use Rattle.graphs.proofs.Tables.{first_off, first_rest, outside-off, refusal-same}
use Rattle.graphs.proofs.Components.{EdgesBelow, edges-below, components_of, components-found}
use Rattle.trees.specs.Tree.{eval}
use Rattle.nodes.specs.Rooms.{capacity, emptied, zeroed}
use Rattle.cycles.specs.Promise.{kept_outside, ask_lines, AskAnswer, AskCases, AskPromise}
use Rattle.cycles.specs.declared.Asked.{Asked}
use Rattle.cycles.proofs.Passes.{cycle-loop, loop-parts}
use Rattle.cycles.proofs.Models.{cycle_t, cycle-is}
use Rattle.cycles.proofs.Fits.{Fitting, fits, exceeds, fitting, Fits, fitting-is, answered-unique, too-large-unique, answered-or-too-large}

-- ---- the answer, computed

-- whether the cycle function of one of the components is 1
unfoldable pub holds_t : (ℕ → ℕ → Bool) → ℕ → List ℕ → ℕ → Bool
holds_t E n [] K = false
holds_t E n (C ∷ Cs) K = eval (cycle_t E n C) K || holds_t E n Cs K

abbrev pub asked_with : Bool → ℕ → Result Asked Refusal
asked_with holds need = Ok (record { holds = holds; need = need })

abbrev pub answer_by : Fitting → Bool → Result Asked Refusal
answer_by (fits m) h = asked_with h m
answer_by (exceeds p) h = Err (RoomTooSmall p)

-- of a block that is not refused with 1, 3 or 9, whose components are given
abbrev pub answer_of : (ℕ → ℕ → Bool) → ℕ → ℕ → ℕ → List ℕ → Result Asked Refusal
answer_of E n kept room Cs = answer_by (fitting E n room Cs) (holds_t E n Cs kept)

abbrev pub ask_by : Option Refusal → List ℕ → ℕ → ℕ → Result Asked Refusal
ask_by (some r) rows kept room = Err r
ask_by none rows kept room = answer_of (edge rows) (length rows) kept room (components_of rows)

-- the answer for a block, a kept mask and a capacity
unfoldable pub ask_model : List ℕ → ℕ → ℕ → Result Asked Refusal
ask_model rows kept room = ask_by (first (ask_lines rows kept)) rows kept room

-- the rooms after it
abbrev pub after : Option Refusal → List ℕ → List ℕ → List ℕ
after (some r) lent cleared = lent
after none lent cleared = cleared

unfoldable pub nodes_model : List ℕ → ℕ → List ℕ → List ℕ
nodes_model rows kept nodes = after (first (ask_lines rows kept)) nodes (emptied nodes)

unfoldable pub memo_model : List ℕ → ℕ → List ℕ → List ℕ
memo_model rows kept memo = after (first (ask_lines rows kept)) memo (zeroed memo)

-- ---- a block that is not refused

-- its rows fit
fit-asked : (rows : List ℕ) (kept : ℕ) → first (ask_lines rows kept) ≡ none → RowsFit rows
fit-asked rows kept e =
    let rest = kept_outside (length rows) kept ∷ [] in
    outside-off rows (first_off (outside rows) rest (first_rest (too_many (length rows)) (outside rows ∷ rest) e))

-- ---- the answer is right

module _ (E : ℕ → ℕ → Bool) (n : ℕ) (low : EdgesBelow E n) (K : ℕ) where
  holds_parts : (Cs : List ℕ) → ((C : ℕ) → Of C Cs → Component E C) → T (holds_t E n Cs K) ↔ ((C : ℕ) × Of C Cs × Loop (inside E C) (bit K))
  unfolding holds_t
  holds_parts [] h = ((λ t. absurd t), λ r. absurd r.1)
  holds_parts (C ∷ Cs) h = go (holds_parts Cs (λ D m. h D (inr m)))
    where
      one : T (eval (cycle_t E n C) K) ↔ Loop (inside E C) (bit K)
      one = subst (λ x. T x ↔ Loop (inside E C) (bit K)) (sym (cycle-is low (h C (inl refl)) K)) (cycle-loop low (h C (inl refl)) K)

      go : T (holds_t E n Cs K) ↔ ((D : ℕ) × Of D Cs × Loop (inside E D) (bit K))
          → T (eval (cycle_t E n C) K || holds_t E n Cs K) ↔ ((D : ℕ) × Of D (C ∷ Cs) × Loop (inside E D) (bit K))
      go ih = (
        (λ t.
            ⊎_elim (λ s. (C, inl refl, one.0 s)) (λ s. let r = ih.0 s in (r.0, inr r.1, r.2))
            (T-or (eval (cycle_t E n C) K) (holds_t E n Cs K) t)),
        λ r. back r.0 r.1 r.2,
      )
        where
          back : (D : ℕ) → Of D (C ∷ Cs) → Loop (inside E D) (bit K) → T (eval (cycle_t E n C) K || holds_t E n Cs K)
          back D (inl e) l = or_l (eval (cycle_t E n C) K) (holds_t E n Cs K) (one.1 (subst (λ z. Loop (inside E z) (bit K)) e l))
          back D (inr m) l = or_r (eval (cycle_t E n C) K) (holds_t E n Cs K) (ih.1 (D, m, l))

  pub holds-iff : (Cs : List ℕ) → Components E Cs → T (holds_t E n Cs K) ↔ Loop E (bit K)
  holds-iff Cs comps = Iff.trans (holds_parts Cs (λ C m. (comps.all C).0 m)) (Iff.symm (loop-parts low comps (bit K)))

-- the answer, given what fits and whether a loop is kept
answer_by-right : (rows : List ℕ) (kept room : ℕ) (Cs : List ℕ) → Components (edge rows) Cs → (r : Fitting) → Fits (edge rows) (length rows) room Cs r → (h : Bool)
    → T h ↔ Loop (edge rows) (bit kept) → AskAnswer rows kept room (answer_by r h)
answer_by-right rows kept room Cs comps (fits m) f h l = (record { parts = Cs; are = comps; fit = f }, l)
answer_by-right rows kept room Cs comps (exceeds p) f h l = (refl, record { parts = Cs; are = comps; excess = f })

pub answer-right : (rows : List ℕ) (kept room : ℕ) → RowsFit rows → (Cs : List ℕ) → Components (edge rows) Cs
    → AskAnswer rows kept room (answer_of (edge rows) (length rows) kept room Cs)
answer-right rows kept room fit Cs comps =
    let low : EdgesBelow (edge rows) (length rows) = edges-below rows fit in
    answer_by-right rows kept room Cs comps (fitting (edge rows) (length rows) room Cs)
    (fitting-is (edge rows) (length rows) room low Cs (λ C m. (comps.all C).0 m)) (holds_t (edge rows) (length rows) Cs kept)
    (holds-iff (edge rows) (length rows) low kept Cs comps)

-- for every input
pub ask-meets : (rows : List ℕ) (kept : ℕ) (nodes memo : List ℕ)
    → AskPromise rows kept nodes memo (ask_model rows kept (capacity nodes)) (nodes_model rows kept nodes) (memo_model rows kept memo)
unfolding ask_model nodes_model memo_model
ask-meets rows kept nodes memo = go (first (ask_lines rows kept)) refl
  where
    go : (o : Option Refusal) → first (ask_lines rows kept) ≡ o
        → AskCases o rows kept nodes memo (ask_by o rows kept (capacity nodes)) (after o nodes (emptied nodes)) (after o memo (zeroed memo))
    go (some r) e = (refl, refl, refl)
    go none e =
        let fit : RowsFit rows = fit-asked rows kept e in
        (answer-right rows kept (capacity nodes) fit (components_of rows) (components-found rows fit), refl, refl)

-- ---- any two answers that the promise allows are equal

-- whether a loop is kept, and the need: the same, so the answers are
asked-same : (a b : Asked) → a.holds ≡ b.holds → a.need ≡ b.need → a ≡ b
asked-same a b h n = λ i. record { holds = h i; need = n i }

pub answer-unique : (rows : List ℕ) (kept room : ℕ) (a b : Result Asked Refusal) → AskAnswer rows kept room a → AskAnswer rows kept room b → a ≡ b
answer-unique rows kept room (Ok a) (Ok b) p q =
    ap Ok (asked-same a b (iff-eq a.holds b.holds (Iff.trans p.1 (Iff.symm q.1))) (answered-unique (edge rows) (length rows) room a.need b.need p.0 q.0))
answer-unique rows kept room (Ok a) (Err s) p q =
    absurd (answered-or-too-large (edge rows) (length rows) room a.need (place_of s) p.0 q.1)
answer-unique rows kept room (Err r) (Ok b) p q =
    absurd (answered-or-too-large (edge rows) (length rows) room b.need (place_of r) q.0 p.1)
answer-unique rows kept room (Err r) (Err s) p q =
    ap Err (refusal-same r s (p.0 ∙ sym q.0) (too-large-unique (edge rows) (length rows) room (place_of r) (place_of s) p.1 q.1))

pub ask-unique : (rows : List ℕ) (kept : ℕ) (nodes memo : List ℕ) (a b : Result Asked Refusal) (nodes₁ nodes₂ memo₁ memo₂ : List ℕ)
    → AskPromise rows kept nodes memo a nodes₁ memo₁ → AskPromise rows kept nodes memo b nodes₂ memo₂ → (a ≡ b) × (nodes₁ ≡ nodes₂) × (memo₁ ≡ memo₂)
ask-unique rows kept nodes memo a b nodes₁ nodes₂ memo₁ memo₂ = go (first (ask_lines rows kept))
  where
    go : (o : Option Refusal) → AskCases o rows kept nodes memo a nodes₁ memo₁ → AskCases o rows kept nodes memo b nodes₂ memo₂
        → (a ≡ b) × (nodes₁ ≡ nodes₂) × (memo₁ ≡ memo₂)
    go (some r) p q = (p.0 ∙ sym q.0, p.1 ∙ sym q.1, p.2 ∙ sym q.2)
    go none p q = (answer-unique rows kept (capacity nodes) a b p.0 q.0, p.1 ∙ sym q.1, p.2 ∙ sym q.2)

-- so an answer that is allowed is the model's
pub ask-is : (rows : List ℕ) (kept : ℕ) (nodes memo : List ℕ) (a : Result Asked Refusal) (nodes' memo' : List ℕ) → AskPromise rows kept nodes memo a nodes' memo'
    → (a ≡ ask_model rows kept (capacity nodes)) × (nodes' ≡ nodes_model rows kept nodes) × (memo' ≡ memo_model rows kept memo)
ask-is rows kept nodes memo a nodes' memo' p =
    ask-unique rows kept nodes memo a (ask_model rows kept (capacity nodes)) nodes' (nodes_model rows kept nodes) memo' (memo_model rows kept memo) p
    (ask-meets rows kept nodes memo)

-- "what they held on entry changes no answer", nor does the memo room: with rooms of one capacity the answers are equal
pub ask-same : (rows : List ℕ) (kept : ℕ) (nodes₁ memo₁ nodes₂ memo₂ : List ℕ) (a b : Result Asked Refusal) (nodes₁' memo₁' nodes₂' memo₂' : List ℕ)
    → capacity nodes₁ ≡ capacity nodes₂ → AskPromise rows kept nodes₁ memo₁ a nodes₁' memo₁' → AskPromise rows kept nodes₂ memo₂ b nodes₂' memo₂' → a ≡ b
ask-same rows kept nodes₁ memo₁ nodes₂ memo₂ a b nodes₁' memo₁' nodes₂' memo₂' e p q =
    (ask-is rows kept nodes₁ memo₁ a nodes₁' memo₁' p).0 ∙ ap (ask_model rows kept) e ∙ sym (ask-is rows kept nodes₂ memo₂ b nodes₂' memo₂' q).0
