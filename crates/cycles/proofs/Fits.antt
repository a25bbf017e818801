-- Of a list of components and a capacity: either every component fits, with one largest need, or there is a first that does not, with one lowest flip-flop;
-- never both. Shown by the need that the trees give, since a list of functions has one need. Assumes nothing.
use mathlib.Core.Path.{◌≡◌, refl, sym, ap, ap₂, ◌∙◌, subst}
use mathlib.Core.Logic.{◌⊎◌, inl, inr}
use mathlib.Core.Bool.{Bool, true, false, not}
use mathlib.Core.List.{List, [], ◌∷◌, ◌++◌}
use Prim.Native.Nat.{ℕ, ◌≤◌, ◌<◌, max}
use native.Mathlib.Omega.{arith}
use lib.Dec.{T, leb, leb→le, nleb→lt}
use Rattle.masks.specs.Sets.{bit, lowest}
use Rattle.graphs.specs.Graph.{Of}
use Rattle.graphs.specs.Components.{Component, Lowest}
use Rattle.graphs.proofs.Components.{EdgesBelow, components-unique}
use Rattle.graphs.proofs.Lowest.{lowest-one}
use Rattle.trees.specs.Need.{Need}
use Rattle.trees.proofs.Needs.{need-unique}
use Rattle.cycles.specs.Passes.{functions}
use Rattle.cycles.specs.Needs.{Fit, Excess, Answered, TooLarge}
use Rattle.cycles.proofs.Searches.{lowest-holds}
use Rattle.cycles.proofs.Models.{need_of, need_of-is}

-- ---- the answer, computed

-- all fit, with the largest need; or one does not, with its lowest flip-flop
pub data Fitting : Type 0 where
  fits : ℕ → Fitting
  exceeds : ℕ → Fitting

-- a component before others: whether it fits, its need and its lowest flip-flop
abbrev pub before : Bool → ℕ → ℕ → Fitting → Fitting
before true k v (fits m) = fits (max k m)
before true k v (exceeds p) = exceeds p
before false k v r = exceeds v

module _ (E : ℕ → ℕ → Bool) (n capacity : ℕ) where
  abbrev pub fit_one : ℕ → ℕ → Fitting → Fitting
  fit_one C k r = before (leb k capacity) k (lowest n (bit C)) r

  unfoldable pub fitting : List ℕ → Fitting
  fitting [] = fits 0
  fitting (C ∷ Cs) = fit_one C (need_of E n C) (fitting Cs)

  -- what each case says
  abbrev pub Fits : List ℕ → Fitting → Type 0
  Fits Cs (fits m) = Fit E n capacity Cs m
  Fits Cs (exceeds p) = Excess E n capacity Cs p

  module _ (low : EdgesBelow E n) where
    pub fitting-is : (Cs : List ℕ) → ((C : ℕ) → Of C Cs → Component E C) → Fits Cs (fitting Cs)
    unfolding fitting
    fitting-is [] h = refl
    fitting-is (C ∷ Cs) h = go (leb k capacity) (leb→le k capacity) (nleb→lt k capacity) (fitting Cs) (fitting-is Cs (λ D m. h D (inr m)))
      where
        k : ℕ
        k = need_of E n C

        need : Need (functions E n C) k
        need = need_of-is low (h C (inl refl))

        go : (x : Bool) → (T x → k ≤ capacity) → (T (not x) → capacity < k) → (r : Fitting) → Fits Cs r
            → Fits (C ∷ Cs) (before x k (lowest n (bit C)) r)
        go true p q (fits m) f = (k, m, need, p tt, f, refl)
        go true p q (exceeds v) f = (k, need, inr (p tt, f))
        go false p q r f = (k, need, inl (q tt, lowest-holds low (h C (inl refl))))

    -- each list of components fits or does not
    pub fits-or-not : (Cs : List ℕ) → ((C : ℕ) → Of C Cs → Component E C)
        → ((m : ℕ) × Fit E n capacity Cs m) ⊎ ((place : ℕ) × Excess E n capacity Cs place)
    fits-or-not Cs h = go (fitting Cs) (fitting-is Cs h)
      where
        go : (r : Fitting) → Fits Cs r → ((m : ℕ) × Fit E n capacity Cs m) ⊎ ((place : ℕ) × Excess E n capacity Cs place)
        go (fits m) f = inl (m, f)
        go (exceeds p) f = inr (p, f)

  -- ---- one component more at the end

  pub fit-more : (Cs : List ℕ) (m C k : ℕ) → Fit E n capacity Cs m → Need (functions E n C) k → k ≤ capacity → Fit E n capacity (Cs ++ (C ∷ [])) (max m k)
  fit-more [] m C k f d l = (k, 0, d, l, refl, ap (λ z. max z k) f ∙ omega arith)
  fit-more (D ∷ Cs) m C k f d l =
      (f.0, max f.1 k, f.2, f.3, fit-more Cs f.1 C k f.4 d l, ap (λ z. max z k) f.5 ∙ omega arith)

  pub excess-after : (Cs Ds : List ℕ) (m place : ℕ) → Fit E n capacity Cs m → Excess E n capacity Ds place → Excess E n capacity (Cs ++ Ds) place
  excess-after [] Ds m place f x = x
  excess-after (C ∷ Cs) Ds m place f x = (f.0, f.2, inr (f.3, excess-after Cs Ds f.1 place f.4 x))

  -- ---- one answer, and one only

  pub fit-unique : (Cs : List ℕ) (m m' : ℕ) → Fit E n capacity Cs m → Fit E n capacity Cs m' → m ≡ m'
  fit-unique [] m m' f g = f ∙ sym g
  fit-unique (C ∷ Cs) m m' f g =
      f.5 ∙ ap₂ max (need-unique (functions E n C) f.0 g.0 f.2 g.2) (fit-unique Cs f.1 g.1 f.4 g.4) ∙ sym g.5

  pub excess-unique : (Cs : List ℕ) (p p' : ℕ) → Excess E n capacity Cs p → Excess E n capacity Cs p' → p ≡ p'
  excess-unique [] p p' f g = absurd f
  excess-unique (C ∷ Cs) p p' f g = go f.2 g.2 (need-unique (functions E n C) f.0 g.0 f.1 g.1) (excess-unique Cs p p')
    where
      go : ((capacity < f.0) × Lowest C p) ⊎ ((f.0 ≤ capacity) × Excess E n capacity Cs p)
          → ((capacity < g.0) × Lowest C p') ⊎ ((g.0 ≤ capacity) × Excess E n capacity Cs p') → f.0 ≡ g.0
          → (Excess E n capacity Cs p → Excess E n capacity Cs p' → p ≡ p') → p ≡ p'
      go (inl a) (inl b) e ih = lowest-one C p p' a.1 b.1
      go (inl a) (inr b) e ih = absurd (omega (arith, a.0, b.0))
      go (inr a) (inl b) e ih = absurd (omega (arith, a.0, b.0))
      go (inr a) (inr b) e ih = ih a.1 b.1

  pub fit-or-excess : (Cs : List ℕ) (m p : ℕ) → Fit E n capacity Cs m → Excess E n capacity Cs p → ⊥
  fit-or-excess [] m p f g = absurd g
  fit-or-excess (C ∷ Cs) m p f g = go g.2 (need-unique (functions E n C) f.0 g.0 f.2 g.1) f.3 (fit-or-excess Cs f.1 p f.4)
    where
      go : ((capacity < g.0) × Lowest C p) ⊎ ((g.0 ≤ capacity) × Excess E n capacity Cs p) → f.0 ≡ g.0 → f.0 ≤ capacity
          → (Excess E n capacity Cs p → ⊥) → ⊥
      go (inl a) e l ih = omega (arith, a.0)
      go (inr a) e l ih = ih a.1

  -- the same of a graph, since it has one list of components
  pub answered-unique : (m m' : ℕ) → Answered E n capacity m → Answered E n capacity m' → m ≡ m'
  answered-unique m m' a b =
      fit-unique a.parts m m' a.fit (subst (λ Cs. Fit E n capacity Cs m') (components-unique b.are a.are) b.fit)

  pub too-large-unique : (p p' : ℕ) → TooLarge E n capacity p → TooLarge E n capacity p' → p ≡ p'
  too-large-unique p p' a b =
      excess-unique a.parts p p' a.excess (subst (λ Cs. Excess E n capacity Cs p') (components-unique b.are a.are) b.excess)

  pub answered-or-too-large : (m p : ℕ) → Answered E n capacity m → TooLarge E n capacity p → ⊥
  answered-or-too-large m p a b =
      fit-or-excess a.parts m p a.fit (subst (λ Cs. Excess E n capacity Cs p) (components-unique b.are a.are) b.excess)
