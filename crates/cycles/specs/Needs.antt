-- The needs of the components, and what fits a room. Assumes nothing.
use Rattle.std.specs.Prelude.{◌≡◌, ◌⊎◌, Bool, List, [], ◌∷◌, ℕ, ◌≤◌, ◌<◌, max}
use Rattle.graphs.specs.Components.{Components, Lowest}
use Rattle.trees.specs.Need.{Need}
use Rattle.cycles.specs.Passes.{functions}

-- of a graph E of n flip-flops and a capacity
module _ (E : ℕ → ℕ → Bool) (n capacity : ℕ) where
  -- every component fits, and m is "the largest need, 0 without components"
  abbrev pub Fit : List ℕ → ℕ → Type 0
  Fit [] m = m ≡ 0
  Fit (C ∷ Cs) m = (k : ℕ) × (j : ℕ) × Need (functions E n C) k × (k ≤ capacity) × Fit Cs j × (m ≡ max k j)

  -- "Refusal 4 comes exactly when a need exceeds the capacity": place is the "lowest flip-flop of the first component that doesn't fit"
  abbrev pub Excess : List ℕ → ℕ → Type 0
  Excess [] place = ⊥
  Excess (C ∷ Cs) place =
      (k : ℕ) × Need (functions E n C) k × (((capacity < k) × Lowest C place) ⊎ ((k ≤ capacity) × Excess Cs place))

  pub record Answered (m : ℕ) : Type 0 where
    pub parts : List ℕ
    pub are : Components E parts
    pub fit : Fit parts m

  pub record TooLarge (place : ℕ) : Type 0 where
    pub parts : List ℕ
    pub are : Components E parts
    pub excess : Excess parts place
