-- The tree of a component's cycle function gives its lightest set: a set meets every loop of the component exactly where what it leaves takes the tree to 0,
-- so the best set of the tree is the lightest of those within the component, and there is one. Assumes nothing.
use mathlib.Core.Path.{◌≡◌, refl, sym, ap, ◌∙◌, subst}
use mathlib.Core.Logic.{◌≢◌, inl, inr, ◌↔◌}
use mathlib.Core.Bool.{Bool, true, false, not, ◌&&◌}
use mathlib.Core.Option.{some}
use Prim.Native.Nat.{ℕ, ◌<◌}
use native.Mathlib.Omega.{arith}
use native.Mathlib.Decide.{dec_lt}
use lib.Bits.{bit_and, and_le_l}
use lib.Count.{ones}
use lib.Dec.{T}
use Rattle.masks.specs.Sets.{bit, those, weight}
use Rattle.masks.proofs.Tests.{T_and, T?, T_false}
use Rattle.masks.proofs.Bits.{bit-and}
use Rattle.masks.proofs.Those.{those-in}
use Rattle.graphs.specs.Graph.{Loop}
use Rattle.graphs.specs.Light.{left, Meets, Lighter, Lightest}
use Rattle.graphs.specs.Components.{Component, inside}
use Rattle.masks.proofs.Weights.{within-weight}
use Rattle.graphs.proofs.Walks.{start-kept}
use Rattle.graphs.proofs.Loops.{loop-iff}
use Rattle.graphs.proofs.Parts.{Within, inside-walk}
use Rattle.graphs.proofs.Components.{EdgesBelow}
use Rattle.trees.specs.Tree.{at}
use Rattle.trees.specs.Best.{Frees, best}
use Rattle.trees.proofs.Bests.{at_under, LightestFree, best-some, best-empty}
use Rattle.cycles.specs.Search.{back_of}
use Rattle.cycles.specs.Passes.{cycle}
use Rattle.cycles.proofs.Searches.{member-lt}
use Rattle.cycles.proofs.Passes.{cycle-loop}
use Rattle.cycles.proofs.Models.{cycle_t, cycle-is, cycle-fine}

-- two tests that agree on C keep the same loops of it
loop-agree : (E : ℕ → ℕ → Bool) (C : ℕ) (K K' : ℕ → Bool) → ((v : ℕ) → T (bit C v) → K v ≡ K' v) → Loop (inside E C) K → Loop (inside E C) K'
loop-agree E C K K' same l =
    let p = (loop-iff (inside E C) K).0 l in
    (loop-iff (inside E C) K').1 (p.0, inside-walk E C (λ v m k. subst T (same v m) k) p.1)

module _ {E : ℕ → ℕ → Bool} {n C : ℕ} (low : EdgesBelow E n) (comp : Component E C) where
  -- the tree at any test of what is kept
  pub cycle-at : (K : ℕ → Bool) → T (at (cycle_t E n C) K) ↔ Loop (inside E C) K
  cycle-at K = (λ t. forth (subst T value t), λ l. subst T (sym value) (back l))
    where
      m : ℕ
      m = those n K

      agree : (v : ℕ) → T (bit C v) → bit m v ≡ K v
      agree v t = those-in n K v (member-lt low comp v t)

      value : at (cycle_t E n C) K ≡ cycle E n C m
      value =
          at_under n (cycle_t E n C) (cycle-fine low comp (ones (back_of E n C))).under K (bit m) (λ v l. sym (those-in n K v l)) ∙ cycle-is low comp m

      forth : T (cycle E n C m) → Loop (inside E C) K
      forth t = loop-agree E C (bit m) K agree ((cycle-loop low comp m).0 t)

      back : Loop (inside E C) K → T (cycle E n C m)
      back l = (cycle-loop low comp m).1 (loop-agree E C K (bit m) (λ v t. sym (agree v t)) l)

  -- a set meets every loop of the component exactly where it takes the tree to 0
  pub cycle-frees : (S : ℕ) → Frees (cycle_t E n C) S ↔ Meets (inside E C) S
  cycle-frees S = (λ e l. subst T e ((cycle-at (left S)).1 l), λ h. T_false (at (cycle_t E n C) (left S)) (λ t. h ((cycle-at (left S)).0 t)))

  -- what a set holds outside the component matters not
  meets-within : (S : ℕ) → Meets (inside E C) S → Meets (inside E C) (bit_and S C)
  meets-within S h l = h (loop-agree E C (left (bit_and S C)) (left S) (λ v t. ap not (bit-and S C v ∙ go (bit S v) (bit C v) t)) l)
    where
      go : (x y : Bool) → T y → (x && y) ≡ x
      go true true t = refl
      go true false t = absurd t
      go false y t = refl

  module _ (c : ℕ → ℕ) where
    best-within : (S : ℕ) → LightestFree c n (cycle_t E n C) S → Within C S
    best-within S b v t = go (T? (bit C v))
      where
        R : ℕ
        R = bit_and S C

        inner : (w : ℕ) → T (bit R w) → T (bit S w) × T (bit C w)
        inner w t = T_and (bit S w) (bit C w) (subst T (bit-and S C w) t)

        -- less by v, so the smaller number
        less : (T (bit C v) → ⊥) → R < S
        less k =
            let ne : R ≢ S = λ e. k (inner v (subst (λ z. T (bit z v)) (sym e) t)).1 in
            omega (arith, and_le_l S C)

        lighter : (T (bit C v) → ⊥) → Lighter c n R S
        lighter k = by (dec_lt (weight c n R) (weight c n S))
          where
            by : Dec (weight c n R < weight c n S) → Lighter c n R S
            by (yes l) = inl l
            by (no j) =
                let j' : ¬ (weight c n R < weight c n S) = j in
                inr (omega (arith, within-weight c n S R (λ w t. (inner w t).0)), less k)

        go : Dec (T (bit C v)) → T (bit C v)
        go (yes m) = m
        go (no k) =
            let l : R < S = less k in
            absurd (b.least R (omega (arith, b.fits)) ((cycle-frees R).1 (meets-within S ((cycle-frees S).0 b.frees))) (lighter k))

    -- the best set of the tree is the lightest set of the component
    pub component-best : (S : ℕ) → best c n (cycle_t E n C) ≡ some S → Lightest c n (Within C) (inside E C) S
    component-best S e =
        let f = cycle-fine low comp (ones (back_of E n C)) in
        let b : LightestFree c n (cycle_t E n C) S = best-some c n (cycle_t E n C) f.good.ordered f.under S e in
        record {
          fits = b.fits;
          allowed = best-within S b;
          meets = (cycle-frees S).0 b.frees;
          least = λ R l w h. b.least R l ((cycle-frees R).1 h);
        }

    -- and there is one: with nothing kept there is no loop
    pub component-best-some : (S : ℕ) × (best c n (cycle_t E n C) ≡ some S)
    component-best-some =
        let f = cycle-fine low comp (ones (back_of E n C)) in
        best-empty c n (cycle_t E n C) f.good.ordered f.under (T_false (at (cycle_t E n C) (λ v. false)) nothing)
      where
        nothing : T (at (cycle_t E n C) (λ v. false)) → ⊥
        nothing t = start-kept ((loop-iff (inside E C) (λ v. false)).0 ((cycle-at (λ v. false)).0 t)).1
