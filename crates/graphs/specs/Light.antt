-- Sets that meet every loop, and the lightest of them. Assumes nothing.
use Rattle.std.specs.Prelude.{◌≡◌, ◌⊎◌, Bool, not, ℕ, ◌<◌, ◌^◌}
use Rattle.masks.specs.Sets.{bit, weight}
use Rattle.graphs.specs.Graph.{Loop}

-- what a set leaves
abbrev pub left : ℕ → ℕ → Bool
left S v = not (bit S v)

-- "A set meets a loop if it holds one of its flip-flops": S meets every loop of E, so that none is left among the others
abbrev pub Meets : (ℕ → ℕ → Bool) → ℕ → Type 0
Meets E S = Loop E (left S) → ⊥

-- "Set S is lighter than T if it costs less, or costs the same and its mask is the smaller number", of sets of n flip-flops at the costs c. (T is R here.)
abbrev pub Lighter : (ℕ → ℕ) → ℕ → ℕ → ℕ → Type 0
Lighter c n S R = (weight c n S < weight c n R) ⊎ ((weight c n S ≡ weight c n R) × (S < R))

-- S is a set of n flip-flops that is allowed and meets every loop, and no such set is lighter
pub record Lightest (c : ℕ → ℕ) (n : ℕ) (Allowed : ℕ → Type 0) (E : ℕ → ℕ → Bool) (S : ℕ) : Type 0 where
  pub fits : S < 2 ^ n
  pub allowed : Allowed S
  pub meets : Meets E S
  pub least : (R : ℕ) → R < 2 ^ n → Allowed R → Meets E R → Lighter c n R S → ⊥
