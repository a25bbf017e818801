-- The question about a kept set, component by component: what is known of those met, that the largest need and the answer go on from one to the next, and that
-- the first that does not fit is the one to refuse. Assumes nothing.
use mathlib.Core.Path.{◌≡◌, refl, sym, ap, ap₂, ◌∙◌, subst, subst₂}
use mathlib.Core.Logic.Iff
use mathlib.Core.Logic.{inl, ⊎_elim, ◌↔◌}
use mathlib.Core.Bool.{Bool, true, false, not, ◌||◌}
use mathlib.Core.List.{List, [], ◌∷◌, ◌++◌, append_assoc, append-nil}
use mathlib.Core.Option.{Option, none, some}
use Prim.Native.Nat.{ℕ, ◌-◌, ◌^◌, ◌<◌, max}
use native.Mathlib.Omega.{arith}
use lib.Dec.{T, eqb, leb}
use borrow.Author.Tests.{eq-eqb}
use lib.ListN.{length, take, drop, replicate, length-take}
use Rattle.masks.specs.Sets.{bit, pick, minus, number}
use Rattle.masks.proofs.Tests.{T-or, or_l, or_r}
use Rattle.masks.proofs.Words.{wide_test}
use Rattle.graphs.specs.Graph.{edge, Of, Loop}
use Rattle.graphs.specs.Components.{Component, Components, inside}
use Rattle.graphs.specs.Coming.{Coming, NextPart}
use Rattle.std.specs.Prelude.{Result, Ok, Err, IsErr, Some, None, cond}
use Rattle.std.proofs.Common.{Ordering, Less, Equal, Greater}
use Rattle.std.specs.Ordering.{MatchOrdering, is_lt, nat_cmp, ord_max}
use Rattle.std.specs.Cmp.{ranks}
use Rattle.std.proofs.lemmas.Bool.{false≢true}
use Rattle.graphs.specs.Refusals.{first, too_many, outside, checks}
use Rattle.graphs.specs.Work.{Sound}
use Rattle.graphs.specs.declared.component.Part.{Part}
use Rattle.graphs.specs.declared.refusal.Refusal.{Refusal}
use Rattle.graphs.specs.declared.refusal.Refusal.TheVariants.{RoomTooSmall, KeptOutside}
use Rattle.graphs.proofs.Lists.{Of-left, Of-right, Of-cases}
use Rattle.graphs.proofs.Tables.{first-none, first_some}
use Rattle.graphs.proofs.InOrder.{sound-below}
use Rattle.graphs.proofs.Whole.{part-component}
use Rattle.trees.specs.Need.{Need}
use Rattle.nodes.specs.Promise.{ValuePromise}
use Rattle.nodes.specs.Rooms.{used, capacity, emptied, zeroed}
use Rattle.nodes.specs.declared.Full.{Full}
use Rattle.nodes.proofs.Clearing.{front_length, lent-emptied}
use Rattle.nodes.proofs.Counting.{used-within}
use Rattle.cycles.specs.Passes.{functions}
use Rattle.cycles.specs.Needs.{Fit, Excess}
use Rattle.cycles.specs.Promise.{kept_outside, ask_lines, AskAnswer, AskCases, AskPromise}
use Rattle.cycles.specs.declared.Asked.{Asked}
use Rattle.cycles.specs.declared.making.Cycle.{Cycle}
use Rattle.cycles.specs.Work.{TooSmall, ComponentPromise, PartPromise}
use Rattle.cycles.proofs.Passes.{cycle-loop, loop-parts}
use Rattle.cycles.proofs.Fits.{fit-more, excess-after}

-- ---- one component

module _ (rows : List ℕ) (C kept : ℕ) (ws ws₁ : List ℕ) (same : length ws₁ ≡ length ws) where
  pub part-full : (f : Full) → ComponentPromise (edge rows) (length rows) C ws₁ (Err f) → (r : Result Asked Full) → IsErr r
      → PartPromise (edge rows) (length rows) C kept (length ws) r
  part-full f b (Ok a) e = absurd (false≢true e)
  part-full f b (Err x) e = subst (TooSmall (edge rows) (length rows) C) same b

  module _ (b : Cycle) (built : ComponentPromise (edge rows) (length rows) C ws₁ (Ok b)) where
    pub part-done : (a : Asked) → a.need ≡ used (take b.words ws₁) → ValuePromise (take b.words ws₁) b.function.0 kept a.holds
        → PartPromise (edge rows) (length rows) C kept (length ws) (Ok a)
    part-done a q v = (
      subst (Need (functions (edge rows) (length rows) C)) (sym q) built.1.need,
      omega (arith, q, used-within (take b.words ws₁), length-take b.words ws₁),
      v built.1.tree built.1.stands ∙ built.1.is kept,
    )

-- ---- the loop

-- the larger of two needs, as `max` picks it
max-is : (m k r : ℕ) → r ≡ ord_max nat_cmp m k → r ≡ max m k
max-is m k r e = e ∙ go (nat_cmp k m) (ranks k m)
  where
    go : (o : Ordering) → MatchOrdering o (k < m) (k ≡ m) (m < k) → cond (is_lt o) m k ≡ max m k
    go Less l = omega arith
    go Equal l = omega arith
    go Greater l = omega arith

-- the components Cs were met: `need` is the largest need of those, `holds` whether one of them holds a kept loop
pub record Asking (rows : List ℕ) (kept room need : ℕ) (holds : Bool) (coming : Coming) : Type 0 where
  pub Cs : List ℕ
  pub is_of : coming.rows ≡ rows
  pub all : Components (edge rows) (Cs ++ coming.left)
  pub fit : Fit (edge rows) (length rows) room Cs need
  pub told : T holds ↔ ((C : ℕ) × Of C Cs × Loop (inside (edge rows) C) (bit kept))

module _ (rows : List ℕ) (kept room : ℕ) where
  abbrev E : ℕ → ℕ → Bool
  E = edge rows

  abbrev n : ℕ
  n = length rows

  pub ask-first : (begun coming : Coming) → coming ≡ begun → begun.rows ≡ rows → Components E begun.left → Asking rows kept room 0 false coming
  ask-first begun coming e is_of all =
      record {
        Cs = [];
        is_of = ap (λ (k : Coming). k.rows) e ∙ is_of;
        all = subst (λ (k : Coming). Components E k.left) (sym e) all;
        fit = refl;
        told = ((λ t. absurd t), λ r. absurd r.1);
      }

  module _ (sound : Sound rows) (need : ℕ) (holds : Bool) (coming after : Coming) (a : Asking rows kept room need holds coming) where
    module _ (part : Part) (step : NextPart coming (Some part) after) where
      abbrev C : ℕ
      C = number part.members

      same_rows : part.graph.rows.now ≡ rows
      same_rows = step.2 ∙ a.is_of

      -- what the part answers
      abbrev Answers : ℕ → Result Asked Full → Type 0
      Answers words r = PartPromise (edge part.graph.rows.now) (length part.graph.rows.now) C kept words r

      answered : (words : ℕ) → words ≡ room → (r : Result Asked Full) → Answers words r → PartPromise E n C kept room r
      answered words same r told = subst₂ (λ rs k. PartPromise (edge rs) (length rs) C kept k r) same_rows same told

      module _ (words : ℕ) (same : words ≡ room) where
        pub ask-full : (f : Full) → Answers words (Err f) → AskAnswer rows kept room (Err (RoomTooSmall part.lowest.0))
        ask-full f told =
            let x : TooSmall E n C room = answered words same (Err f) told in (
              refl,
              record {
                parts = a.Cs ++ coming.left;
                are = a.all;
                excess =
                    subst (λ Fs. Excess E n room (a.Cs ++ Fs) part.lowest.0) (sym step.0)
                    (excess-after E n room a.Cs (C ∷ after.left) need part.lowest.0 a.fit (x.0, x.1, inl (x.2, part.led)));
              },
            )

        module _ (p : Asked) (told : Answers words (Ok p)) where
          own : PartPromise E n C kept room (Ok p)
          own = answered words same (Ok p) told

          pub ask-next : (need' : ℕ) → need' ≡ ord_max nat_cmp need p.need → Asking rows kept room need' (holds || p.holds) after
          ask-next need' larger =
              record {
                Cs = a.Cs ++ (C ∷ []);
                is_of = step.1 ∙ a.is_of;
                all = subst (Components E) (ap (λ z. a.Cs ++ z) step.0 ∙ sym (append_assoc a.Cs (C ∷ []) after.left)) a.all;
                fit =
                    subst (Fit E n room (a.Cs ++ (C ∷ []))) (sym (max-is need p.need need' larger))
                    (fit-more E n room a.Cs need C p.need a.fit own.0 own.1);
                told = (forth, λ r. back r.0 r.1 r.2);
              }
            where
              found : Component E C
              found = subst (λ rs. Component (edge rs) C) same_rows (part-component part)

              one : T p.holds ↔ Loop (inside E C) (bit kept)
              one = subst (λ z. T z ↔ Loop (inside E C) (bit kept)) (sym own.2) (cycle-loop (sound-below rows sound) found kept)

              forth : T (holds || p.holds) → (D : ℕ) × Of D (a.Cs ++ (C ∷ [])) × Loop (inside E D) (bit kept)
              forth t =
                  ⊎_elim (λ s. let r = a.told.0 s in (r.0, Of-left r.0 a.Cs (C ∷ []) r.1, r.2))
                  (λ s. (C, Of-right C a.Cs (C ∷ []) (inl refl), one.0 s)) (T-or holds p.holds t)

              back : (D : ℕ) → Of D (a.Cs ++ (C ∷ [])) → Loop (inside E D) (bit kept) → T (holds || p.holds)
              back D m l =
                  ⊎_elim (λ i. or_l holds p.holds (a.told.1 (D, i, l)))
                  (⊎_elim (λ i. or_r holds p.holds (one.1 (subst (λ z. Loop (inside E z) (bit kept)) i l))) (λ i. absurd i)) (Of-cases D a.Cs (C ∷ []) m)

    pub ask-all : NextPart coming None after → AskAnswer rows kept room (Ok (record { holds = holds; need = need }))
    ask-all step =
        let comps : Components E a.Cs = subst (Components E) (ap (λ z. a.Cs ++ z) step.0.0 ∙ append-nil a.Cs) a.all in (
          record { parts = a.Cs; are = comps; fit = a.fit },
          Iff.trans a.told (Iff.symm (loop-parts (sound-below rows sound) comps (bit kept))),
        )

-- ---- the whole answer

-- the checks of a block with as many costs as rows are the first lines of the question
lines_are : (rows : List ℕ) → first (checks rows (length rows)) ≡ first (too_many (length rows) ∷ outside rows ∷ [])
lines_are rows = rw (eq-eqb (length rows) (length rows) refl)

-- "9: kept mask has a bit at n or above", as the code tests it
pub kept_test : (n kept m below others : ℕ) (x : Bool) → m ≡ kept → below ≡ 2 ^ n - 1 → others ≡ minus m below → x ≡ eqb others 0 → leb (2 ^ n) kept ≡ not x
kept_test n kept m below others x p q e f = wide_test n kept ∙ ap not (sym (f ∙ ap (λ (y : ℕ). eqb y 0) (e ∙ ap₂ minus p q)))

module _ (rows : List ℕ) (kept : ℕ) (nodes memo : List ℕ) where
  abbrev promised : Option Refusal → Result Asked Refusal → List ℕ → List ℕ → Type 0
  promised o r nodes' memo' = AskCases o rows kept nodes memo r nodes' memo'

  pub ask-refused : (r : Refusal) → some r ≡ first (checks rows (length rows)) → AskPromise rows kept nodes memo (Err r) nodes memo
  ask-refused r c =
      let f : first (ask_lines rows kept) ≡ some r =
      first_some (too_many (length rows) ∷ outside rows ∷ []) (kept_outside (length rows) kept ∷ []) r (sym (lines_are rows) ∙ sym c) in
      subst (λ o. promised o (Err r) nodes memo) (sym f) (refl, refl, refl)

  module _ (g : List ℕ) (c : none ≡ first (checks rows (length rows))) (is_rows : g ≡ rows) (m : ℕ) (is_len : m ≡ length g) where
    -- refusal 9 is left
    nine : first (ask_lines rows kept) ≡ first (kept_outside (length rows) kept ∷ [])
    nine = first-none (too_many (length rows) ∷ outside rows ∷ []) (kept_outside (length rows) kept ∷ []) (sym (lines_are rows) ∙ sym c)

    tested : (x : Bool) → leb (2 ^ m) kept ≡ x → first (ask_lines rows kept) ≡ pick x (some KeptOutside) none
    tested x t = nine ∙ ap (λ x. pick x (some KeptOutside) none) (ap (λ (k : ℕ). leb (2 ^ k) kept) (sym (is_len ∙ ap length is_rows)) ∙ t)

    pub ask-wide : leb (2 ^ m) kept ≡ true → AskPromise rows kept nodes memo (Err KeptOutside) nodes memo
    ask-wide t = subst (λ o. promised o (Err KeptOutside) nodes memo) (sym (tested true t)) (refl, refl, refl)

    -- the first n words of the node room were lent: those that count
    pub ask-answered : leb (2 ^ m) kept ≡ false → (k : ℕ) → k ≡ kept → (r : Result Asked Refusal) (n : ℕ) (front nodes' memo₁ memo' : List ℕ)
        → n ≡ capacity nodes → length front ≡ length (take n nodes) → AskAnswer g k (length (take n nodes)) r → length memo₁ ≡ length memo
        → nodes' ≡ emptied (front ++ drop n nodes) → memo' ≡ zeroed memo₁ → AskPromise rows kept nodes memo r nodes' memo'
    ask-answered t k same r n front nodes' memo₁ memo' c l a s p q =
        subst (λ o. promised o r nodes' memo') (sym (tested false t)) (
          subst₂ (λ rs j. AskAnswer rs kept j r) is_rows (sym (front_length nodes n c) ∙ c) (subst (λ z. AskAnswer g z (length (take n nodes)) r) same a),
          p ∙ lent-emptied nodes front n c l,
          q ∙ ap (λ j. replicate j 0) s,
        )
