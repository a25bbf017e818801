-- The components one after the other: those that were met fit, with the largest need so far, and the set so far is their best sets together. So at the end
-- it is the lightest set of the whole graph; and a component that does not fit is the first such. Assumes nothing.
use mathlib.Core.Path.{◌≡◌, refl, sym, ap, ap₂, ◌∙◌, subst, subst₂}
use mathlib.Core.Logic.{inl}
use mathlib.Core.Bool.{Bool}
use mathlib.Core.List.{List, [], ◌∷◌, ◌++◌, map, append_assoc, append-nil}
use Prim.Native.Nat.{ℕ, ◌<◌, max}
use lib.Bits.{bit_or, or_zero_l, or_zero_r}
use lib.Dec.{T}
use lib.ListN.{length}
use native.Mathlib.Omega.{arith}
use Rattle.std.specs.Prelude.{Some, None, cond}
use Rattle.std.proofs.Common.{Ordering, Less, Equal, Greater}
use Rattle.std.specs.Ordering.{MatchOrdering, is_lt, nat_cmp, ord_max}
use Rattle.std.specs.Cmp.{ranks}
use Rattle.masks.proofs.Bits.{or_assoc}
use Rattle.masks.specs.Sets.{bit, number}
use Rattle.masks.specs.declared.Mask.{Mask}
use Rattle.graphs.specs.Graph.{edge, Of, cost_of}
use Rattle.graphs.specs.Light.{Lightest}
use Rattle.graphs.specs.Components.{Component, Components, inside}
use Rattle.graphs.specs.Coming.{Coming, NextPart}
use Rattle.graphs.specs.Work.{Sound}
use Rattle.graphs.specs.declared.component.Part.{Part}
use Rattle.graphs.proofs.Lists.{map-append}
use Rattle.graphs.proofs.Parts.{joined}
use Rattle.graphs.proofs.Lightest.{lightest-unique}
use Rattle.graphs.proofs.Components.{EdgesBelow, lightest-parts}
use Rattle.graphs.proofs.InOrder.{sound-below}
use Rattle.graphs.proofs.Whole.{part-component}
use Rattle.cycles.specs.Needs.{Fit, TooLarge}
use Rattle.cycles.specs.Work.{TooSmall}
use Rattle.cycles.proofs.Fits.{fit-more, excess-after}
use Rattle.picker.specs.Work.{SetRight, GraphRight}
use Rattle.picker.proofs.Picks.{best_of, best-lightest, has-edge}

-- ---- sets together, one more at the end

joined-more : (Ss : List ℕ) (S : ℕ) → joined (Ss ++ (S ∷ [])) ≡ bit_or (joined Ss) S
joined-more [] S = or_zero_r S ∙ sym (or_zero_l S)
joined-more (R ∷ Ss) S = ap (bit_or R) (joined-more Ss S) ∙ sym (or_assoc R (joined Ss) S)

-- the larger one of two numbers
pub larger : (a b : ℕ) → ord_max nat_cmp a b ≡ max a b
larger a b = go (nat_cmp b a) (ranks b a)
  where
    go : (o : Ordering) → MatchOrdering o (b < a) (b ≡ a) (a < b) → cond (is_lt o) a b ≡ max a b
    go Less l = omega arith
    go Equal e = omega arith
    go Greater l = omega arith

-- ---- the components that were met

pub record Swept (rows costs : List ℕ) (capacity S need : ℕ) (coming : Coming) : Type 0 where
  pub done : List ℕ
  pub is_of : coming.rows ≡ rows
  pub all : Components (edge rows) (done ++ coming.left)
  pub set : S ≡ joined (map (best_of (cost_of costs) (edge rows) (length rows)) done)
  pub fit : Fit (edge rows) (length rows) capacity done need

module _ (rows costs : List ℕ) (capacity : ℕ) where
  abbrev E : ℕ → ℕ → Bool
  E = edge rows

  abbrev f : ℕ → ℕ
  f = best_of (cost_of costs) E (length rows)

  low : Sound rows → EdgesBelow E (length rows)
  low sound = sound-below rows sound

  pub swept_none : (S : Mask) → number S ≡ 0 → (begun coming : Coming) → coming ≡ begun → begun.rows ≡ rows → Components E begun.left
      → Swept rows costs capacity (number S) 0 coming
  swept_none S z begun coming e is_of all =
      record {
        done = [];
        is_of = ap (λ (k : Coming). k.rows) e ∙ is_of;
        all = subst (λ (k : Coming). Components E k.left) (sym e) all;
        set = z;
        fit = refl;
      }

  module _ (sound : Sound rows) {S need : ℕ} {coming after : Coming} (s : Swept rows costs capacity S need coming) where
    -- at the end
    pub swept_all : NextPart coming None after → GraphRight rows costs capacity S need
    swept_all step =
        let comps : Components E s.done = subst (Components E) (ap (λ z. s.done ++ z) step.0.0 ∙ append-nil s.done) s.all in
        let lights : (C : ℕ) → Of C s.done → Lightest (cost_of costs) (length rows) (λ R. (u : ℕ) → T (bit R u) → T (bit C u)) (inside E C) (f C) =
        λ C m. best-lightest (low sound) ((comps.all C).0 m) (cost_of costs) in
        rw s.set
        (record {
          lightest = lightest-parts comps (low sound) f lights;
          linked = has-edge (low sound) comps (cost_of costs) f lights;
          largest = record { parts = s.done; are = comps; fit = s.fit };
        })

    -- the next one
    module _ (part : Part) (step : NextPart coming (Some part) after) where
      abbrev C : ℕ
      C = number part.members

      pub same_rows : part.graph.rows.now ≡ rows
      same_rows = step.2 ∙ s.is_of

      -- fits
      pub swept-more : (k : ℕ) (R S' : Mask) (m room : ℕ) → room ≡ capacity → SetRight part.graph.rows.now costs C room (number R) k
          → number S' ≡ bit_or S (number R) → m ≡ max need k → Swept rows costs capacity (number S') m after
      swept-more k R S' m room same told e q =
          let p = subst₂ (λ rs j. SetRight rs costs C j (number R) k) same_rows same told in
          let found : Component E C = subst (λ rs. Component (edge rs) C) same_rows (part-component part) in
          let is_best : number R ≡ f C = lightest-unique p.lightest (best-lightest (low sound) found (cost_of costs)) in
          record {
            done = s.done ++ (C ∷ []);
            is_of = step.1 ∙ s.is_of;
            all = subst (Components E) (ap (λ z. s.done ++ z) step.0 ∙ sym (append_assoc s.done (C ∷ []) after.left)) s.all;
            set = e ∙ ap₂ bit_or s.set is_best ∙ sym (joined-more (map f s.done) (f C)) ∙ ap joined (sym (map-append f s.done (C ∷ [])));
            fit = rw q (fit-more E (length rows) capacity s.done need C k s.fit p.counts p.fits);
          }

      -- does not fit
      pub swept-over : (room : ℕ) → room ≡ capacity → TooSmall (edge part.graph.rows.now) (length part.graph.rows.now) C room
          → TooLarge E (length rows) capacity part.lowest.0
      swept-over room same told =
          let p = subst₂ (λ rs j. TooSmall (edge rs) (length rs) C j) same_rows same told in
          record {
            parts = s.done ++ coming.left;
            are = s.all;
            excess =
                excess-after E (length rows) capacity s.done coming.left need part.lowest.0 s.fit
                (rw step.0 (p.0, p.1, inl (p.2, part.led)));
          }
