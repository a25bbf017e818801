-- The need of a list of functions of the kept set, a mask: "the number of different non-constant functions got from the listed ones by fixing the
-- first j variables, j from 0 on, in every way". Assumes nothing.
use Rattle.std.specs.Prelude.{◌≡◌, ◌↔◌, Bool, List, ℕ, ◌+◌, ◌*◌, ◌/◌, ◌^◌, ◌<◌, length}
use Rattle.graphs.specs.Graph.{Of, Differ}

-- "fixing the first j variables": f as it is where the flip-flops below j are kept as in a, whatever the kept set K has there
abbrev pub fix : ℕ → ℕ → (ℕ → Bool) → ℕ → Bool
fix j a f K = f (a + 2 ^ j * (K / 2 ^ j))

-- "non-constant": f has not one value everywhere
abbrev pub Varies : (ℕ → Bool) → Type 0
Varies f = ((p q : ℕ) → f p ≡ f q) → ⊥

-- "j from 0 on, in every way": g is f with its first variables fixed, for some j and some way a
abbrev pub Fixing : (ℕ → Bool) → (ℕ → Bool) → Type 0
Fixing g f = (j : ℕ) × (a : ℕ) × (a < 2 ^ j) × (g ≡ fix j a f)

-- "non-constant functions got from the listed ones": g is one of those that are counted
abbrev pub Counted : List (ℕ → Bool) → (ℕ → Bool) → Type 0
Counted L g = Varies g × ((f : ℕ → Bool) × Of f L × Fixing g f)

-- "The need of a component is the number of different non-constant functions got from the listed ones": k different functions are all that are counted
pub record Need (L : List (ℕ → Bool)) (k : ℕ) : Type 0 where
  pub all : List (ℕ → Bool)
  pub differ : Differ all
  pub count : length all ≡ k
  pub exact : (g : ℕ → Bool) → Of g all ↔ Counted L g
