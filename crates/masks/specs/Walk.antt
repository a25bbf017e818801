-- A walk over the members of a set, lowest first. Assumes nothing.
use Rattle.std.specs.Prelude.{◌≡◌, List, [], ◌∷◌, ℕ, zero, suc, ◌≤◌, ◌<◌, T, MatchOption, Option}
use Rattle.std.specs.Iterator.{YieldsFirstBy}
use Rattle.masks.specs.Sets.{pick, bit, cut}
use Rattle.masks.specs.declared.Vertex.{Vertex}

-- the members of m as a list, ascending: of the k positions from v on
unfoldable pub members_from : ℕ → ℕ → ℕ → List ℕ
members_from zero v m = []
members_from (suc k) v m = pick (bit m v) (v ∷ members_from k (suc v) m) (members_from k (suc v) m)

abbrev pub members_of : ℕ → List ℕ
members_of m = members_from 64 0 m

-- v is the lowest member of s, and t has the others
pub record IsLowestOf (s v t : ℕ) : Type 0 where
  pub inner : v < 64
  pub member : T (bit s v)
  pub lowest : (w : ℕ) → w < v → T (bit s w) → ⊥
  pub rest : t ≡ cut s v

-- the lowest member of s, or none where s is empty
abbrev pub IsLowestIn : ℕ → Option Vertex → Type 0
IsLowestIn s r = MatchOption r (s ≡ 0) (λ v. IsLowestOf s v.0 (cut s v.0))

-- as sets
abbrev pub TakesLowest : ℕ → Option Vertex → ℕ → Type 0
TakesLowest s r t = MatchOption r ((s ≡ 0) × (t ≡ 0)) (λ v. IsLowestOf s v.0 t)

-- what a turn of the walk gives: the first of the list, which is the lowest of the set
abbrev pub Walks : ℕ → Option Vertex → ℕ → Type 0
Walks s r t = YieldsFirstBy (λ v. v.0) members_of s r t × TakesLowest s r t

-- no member of m is below `from`
abbrev pub IsPast : ℕ → ℕ → Type 0
IsPast m from = (from ≤ 64) × ((w : ℕ) → w < from → T (bit m w) → ⊥)
