-- The passes, the cycle function and the listed functions, as functions of the kept mask. Assumes nothing.
use Rattle.std.specs.Prelude.{Bool, false, ◌&&◌, ◌||◌, List, [], ◌∷◌, ◌++◌, map, ℕ, zero, suc}
use Rattle.std.specs.Int.Count.{ones}
use Rattle.masks.specs.Sets.{pick, bit}
use Rattle.graphs.specs.Components.{inside}
use Rattle.cycles.specs.Search.{back_of}

-- whether one below n passes a test
unfoldable pub any : ℕ → (ℕ → Bool) → Bool
any zero p = false
any (suc n) p = any n p || p n

-- those below n that pass a test, ascending
unfoldable pub each : ℕ → (ℕ → Bool) → List ℕ
each zero p = []
each (suc n) p = each n p ++ pick (p n) (n ∷ []) []

-- one list after the other
abbrev pub joined : {A : Type 0} → List (List A) → List A
joined [] = []
joined (xs ∷ xss) = xs ++ joined xss

-- "the OR of the first one, two, .." of a list of functions
abbrev pub either : (ℕ → Bool) → (ℕ → Bool) → ℕ → Bool
either f g K = f K || g K

abbrev pub ors_after : (ℕ → Bool) → List (ℕ → Bool) → List (ℕ → Bool)
ors_after f [] = []
ors_after f (g ∷ gs) = either f g ∷ ors_after (either f g) gs

abbrev pub ors : List (ℕ → Bool) → List (ℕ → Bool)
ors [] = []
ors (f ∷ fs) = f ∷ ors_after f fs

-- of a graph E of n flip-flops and a set B
module _ (E : ℕ → ℕ → Bool) (n B : ℕ) where
  -- "Fi(v) is v AND the OR over in-neighbours u of: F(i-1)(u) if u is in B, else Fi(u)", where `last` is F(i-1); d bounds the way back to B, and n is
  -- enough, since no loop avoids B (`pass-is` has the equation without it)
  unfoldable pub within : (ℕ → ℕ → Bool) → ℕ → ℕ → ℕ → Bool
  within last zero v K = false
  within last (suc d) v K = bit K v && any n (λ u. E u v && pick (bit B u) (last u K) (within last d u K))

  -- "F0 of each member of B is the constant 1. In pass i from 1 to k .."
  unfoldable pub F : ℕ → ℕ → ℕ → Bool
  F zero v K = bit B v
  F (suc i) v K = within (F i) n v K

  -- "The result f is the OR of Fk over B"
  unfoldable pub result : ℕ → ℕ → Bool
  result k K = any n (λ b. bit B b && F k b K)

  -- what u hands on in pass i + 1
  abbrev pub handed : ℕ → ℕ → ℕ → Bool
  handed i u = pick (bit B u) (F i u) (F (suc i) u)

  -- "in each pass, for each v, the OR of the first one, two, .. in-neighbours ascending, and the product"
  abbrev pub at_flop : ℕ → ℕ → List (ℕ → Bool)
  at_flop i v = ors (map (handed i) (each n (λ u. E u v))) ++ (F (suc i) v ∷ [])

  -- the first k passes over the flip-flops of C
  unfoldable pub passes : ℕ → ℕ → List (ℕ → Bool)
  passes C zero = []
  passes C (suc i) = passes C i ++ joined (map (at_flop i) (each n (bit C)))

  -- "Listed functions: each variable; in each pass ..; the OR of the first one, two, .. members of B ascending at the end"
  abbrev pub listed : ℕ → ℕ → List (ℕ → Bool)
  listed C k = map (λ v K. bit K v) (each n (bit C)) ++ passes C k ++ ors (map (F k) (each n (bit B)))

-- the cycle function of the component C of E, and its listed functions: "k is the size of B"
abbrev pub cycle : (ℕ → ℕ → Bool) → ℕ → ℕ → ℕ → Bool
cycle E n C = let B = back_of E n C in result (inside E C) n B (ones B)

abbrev pub functions : (ℕ → ℕ → Bool) → ℕ → ℕ → List (ℕ → Bool)
functions E n C = let B = back_of E n C in listed (inside E C) n B C (ones B)
