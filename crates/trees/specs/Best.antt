-- The lightest set out of a tree: "The lightest set follows the paths to 0; an end at 0 costs nothing .., an end at 1 has no set". Assumes nothing.
use Rattle.std.specs.Prelude.{◌≡◌, Bool, false, ◌&&◌, ◌||◌, ℕ, ◌<◌, ltb, leb, eqb}
use Rattle.std.proofs.Math.Option.{Option, none, some}
use Rattle.masks.specs.Sets.{pick, put, weight}
use Rattle.graphs.specs.Light.{left}
use Rattle.trees.specs.Tree.{Tree, off, on, br, at}

-- what the set leaves takes the tree to 0
abbrev pub Frees : Tree → ℕ → Type 0
Frees t S = at t (left S) ≡ false

-- the variables are flip-flops below n
abbrev pub Under : ℕ → Tree → Type 0
Under n off = Unit {0}
Under n on = Unit {0}
Under n (br v l h) = (v < n) × Under n l × Under n h

-- a set with v, where there is one
abbrev pub held : ℕ → Option ℕ → Option ℕ
held v none = none
held v (some S) = some (put S v)

module _ (c : ℕ → ℕ) (n : ℕ) where
  -- "Set S is lighter than T if it costs less, or costs the same and its mask is the smaller number": S is R, which T is here, or lighter
  unfoldable pub as_light : ℕ → ℕ → Bool
  as_light S R = ltb (weight c n S) (weight c n R) || (eqb (weight c n S) (weight c n R) && leb S R)

  -- the lighter of two, where there are two
  abbrev pub lighter : Option ℕ → Option ℕ → Option ℕ
  lighter none r = r
  lighter (some S) none = some S
  lighter (some S) (some R) = pick (as_light S R) (some S) (some R)

  -- "The lightest set follows the paths to 0; an end at 0 costs nothing .., an end at 1 has no set": on the low side v is not kept, so the set holds it
  abbrev pub best : Tree → Option ℕ
  best off = some 0
  best on = none
  best (br v l h) = lighter (held v (best l)) (best h)
