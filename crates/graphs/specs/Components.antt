-- The strongly connected parts of a graph that hold a loop. Assumes nothing.
use Rattle.std.specs.Prelude.{◌↔◌, Bool, true, ◌&&◌, List, [], ◌∷◌, ℕ, ◌<◌, ◌≤◌, T}
use Rattle.masks.specs.Sets.{bit}
use Rattle.graphs.specs.Graph.{Of, Walk}

-- every flip-flop is kept
abbrev pub every : ℕ → Bool
every v = true

-- "A component is a strongly connected part of two or more live flip-flops that no further one can join": C is all that one of its members, which is on
-- a loop, reaches and is reached by
pub record Component (E : ℕ → ℕ → Bool) (C : ℕ) : Type 0 where
  pub member : ℕ
  pub on_loop : Walk E every member member
  pub exact : (w : ℕ) → T (bit C w) ↔ (Walk E every member w × Walk E every w member)

-- v is the lowest flip-flop of C
pub record Lowest (C v : ℕ) : Type 0 where
  pub holds : T (bit C v)
  pub least : (w : ℕ) → T (bit C w) → v ≤ w

-- "Components are taken by lowest flip-flop"
abbrev pub Ascending : List ℕ → Type 0
Ascending [] = Unit {0}
Ascending (C ∷ []) = Unit {0}
Ascending (C ∷ D ∷ Cs) = ((v w : ℕ) → Lowest C v → Lowest D w → v < w) × Ascending (D ∷ Cs)

-- the list of all components, in that order
pub record Components (E : ℕ → ℕ → Bool) (Cs : List ℕ) : Type 0 where
  pub all : (C : ℕ) → Of C Cs ↔ Component E C
  pub ascending : Ascending Cs

-- "Edges into or out of it are ignored": the edges inside C
abbrev pub inside : (ℕ → ℕ → Bool) → ℕ → ℕ → ℕ → Bool
inside E C u w = (bit C u && bit C w) && E u w
