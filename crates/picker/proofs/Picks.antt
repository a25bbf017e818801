-- The pick of a block: the best sets of the components that the reduction leaves, joined with the forced set, are the lightest set of the graph as lent.
-- Shown from the laws that a component's cycle tree gives its lightest set, that a graph goes by its components, and that the reduction is sound. Assumes
-- nothing.
use mathlib.Core.Path.{subst}
use mathlib.Core.Bool.{Bool, not}
use mathlib.Core.List.{List, map}
use mathlib.Core.Option.{Option, none, some}
use Prim.Native.Nat.{ℕ}
use native.Mathlib.Omega.{arith}
use lib.Bits.{bit_or}
use lib.Dec.{T, eqb}
use lib.ListN.{length, get_or}
use Rattle.masks.specs.Sets.{bit}
use Rattle.masks.proofs.Tests.{T_and}
use Rattle.graphs.specs.Graph.{edge, Of, Walk, edge_to, step_to}
use Rattle.graphs.specs.Light.{Lightest}
use Rattle.graphs.specs.Components.{every, Component, Components, inside}
use Rattle.graphs.proofs.Loops.{RowsFit}
use Rattle.graphs.proofs.Lists.{Of-from}
use Rattle.graphs.proofs.Parts.{Within, joined, joined-cases}
use Rattle.graphs.proofs.Components.{EdgesBelow, edges-below, component-at, lightest-parts}
use Rattle.trees.specs.Best.{best}
use Rattle.reduction.specs.Rules.{State, start, run}
use Rattle.reduction.proofs.States.{Sane}
use Rattle.reduction.proofs.Runs.{start-run-sane}
use Rattle.reduction.proofs.Sound.{full-lightest}
use Rattle.cycles.proofs.Models.{cycle_t}
use Rattle.cycles.proofs.Picks.{component-best, component-best-some}

-- the set that was found
abbrev pub found : Option ℕ → ℕ
found none = 0
found (some S) = S

-- the best set of the component C of E, at the costs c
unfoldable pub best_of : (ℕ → ℕ) → (ℕ → ℕ → Bool) → ℕ → ℕ → ℕ
best_of c E n C = found (best c n (cycle_t E n C))

-- ---- one component

-- it is the lightest set that meets every loop of the component
pub best-lightest : {E : ℕ → ℕ → Bool} {n C : ℕ} → EdgesBelow E n → Component E C → (c : ℕ → ℕ) → Lightest c n (Within C) (inside E C) (best_of c E n C)
unfolding best_of
best-lightest low comp c =
    let r = component-best-some low comp c in
    rw r.1 (component-best low comp c r.0 r.1)

-- ---- a graph and its components

module _ {E : ℕ → ℕ → Bool} {n : ℕ} {Cs : List ℕ} (low : EdgesBelow E n) (comps : Components E Cs) (c : ℕ → ℕ) (f : ℕ → ℕ)
    (lights : (C : ℕ) → Of C Cs → Lightest c n (Within C) (inside E C) (f C)) where
  -- a flip-flop of the lightest sets of the components is on a loop, so it has an edge
  pub has-edge : (v : ℕ) → T (bit (joined (map f Cs)) v) → (w : ℕ) × T (E v w)
  has-edge v t =
      let r = joined-cases (map f Cs) v t in
      let q = Of-from f r.0 Cs r.1 in
      let h : T (bit q.0 v) = (lights q.0 q.1).allowed v (subst (λ S. T (bit S v)) q.2 r.2) in
      first_edge ((component-at ((comps.all q.0).0 q.1) v h v).0 h).0
    where
      first_edge : {a b : ℕ} → Walk E every a b → (w : ℕ) × T (E a w)
      first_edge (edge_to {w = w} k l e) = (w, e)
      first_edge (step_to {x = x} k e p) = (x, e)

  -- so where every edge is among some flip-flops, they are together the lightest of their sets
  pub joined-within : (L : ℕ) → ((u w : ℕ) → T (E u w) → T (bit L u)) → Lightest c n (Within L) E (joined (map f Cs))
  joined-within L among =
      let b = lightest-parts comps low f lights in
      record {
        fits = b.fits;
        allowed = λ v t. let r = has-edge v t in among v r.0 r.1;
        meets = b.meets;
        least = λ R l w m. b.least R l tt m;
      }

-- ---- a block as lent

-- what full reduction leaves of a block, at the costs c
abbrev pub reduced : (ℕ → ℕ) → List ℕ → State
reduced c rows = (run c (length rows) (start rows)).left

module _ (c : ℕ → ℕ) (rows : List ℕ) (fit : RowsFit rows) where
  abbrev s : State
  s = reduced c rows

  pub sane : Sane (length rows) s
  sane = start-run-sane c rows fit (length rows)

  pub reduced-fits : RowsFit s.rows
  reduced-fits v l = rw sane.many (sane.fit v)

  pub reduced-edges : EdgesBelow (edge s.rows) (length rows)
  reduced-edges = rw (← sane.many) (edges-below s.rows reduced-fits)

  pub reduced-live : (u w : ℕ) → T (edge s.rows u w) → T (bit s.live u)
  unfolding edge
  reduced-live u w t = (sane.among u w (T_and (not (eqb u w)) (bit (get_or s.rows u 0) w) t).1).0

  -- "The pick is the forced set joined with the lightest sets of the components"
  pub pick-lightest : (Cs : List ℕ) → Components (edge s.rows) Cs → (f : ℕ → ℕ)
      → ((C : ℕ) → Of C Cs → Lightest c (length rows) (Within C) (inside (edge s.rows) C) (f C))
      → Lightest c (length rows) (λ R. Unit {0}) (edge rows) (bit_or s.forced (joined (map f Cs)))
  pick-lightest Cs comps f lights =
      full-lightest c rows fit (length rows) (joined (map f Cs)) (omega arith) (joined-within reduced-edges comps c f lights s.live reduced-live)

  -- the best sets are such sets
  pub best-pick : (Cs : List ℕ) → Components (edge s.rows) Cs
      → Lightest c (length rows) (λ R. Unit {0}) (edge rows) (bit_or s.forced (joined (map (best_of c (edge s.rows) (length rows)) Cs)))
  best-pick Cs comps =
      pick-lightest Cs comps (best_of c (edge s.rows) (length rows)) (λ C m. best-lightest reduced-edges ((comps.all C).0 m) c)
