-- What only the contracts of the code and its proofs cite: no part of document 01. Assumes nothing.
use Rattle.std.specs.Prelude.{◌≡◌, ◌↔◌, Bool, true, false, List, ℕ, ◌≤◌, ◌<◌, ◌^◌, T, length, get_or, MatchOption, Option}
use Rattle.std.proofs.Math.Option.{none}
use Rattle.std.specs.Int.Bits.{bit_or}
use Rattle.masks.specs.Sets.{bit, pick, lowest}
use Rattle.masks.specs.declared.Vertex.{Vertex}
use Rattle.graphs.specs.Graph.{Walk}
use Rattle.graphs.specs.Components.{every, Component, Lowest}
use Rattle.graphs.specs.Refusals.{first, wide, checks}

-- a block passes the checks
abbrev pub Passes : List ℕ → List ℕ → Type 0
Passes rows costs = first (checks rows (length costs)) ≡ none

-- a block that passed the checks 1 and 3
pub record Sound (rows : List ℕ) : Type 0 where
  pub few : length rows ≤ 64
  pub fit : (v : ℕ) → v < length rows → get_or rows v 0 < 2 ^ length rows

-- row u with row k taken in, where it holds k
abbrev pub taken_in : ℕ → List ℕ → ℕ → ℕ
taken_in k rows u = pick (bit (get_or rows u 0) k) (bit_or (get_or rows u 0) (get_or rows k 0)) (get_or rows u 0)

-- who reaches whom in E, as rows: bit w of row u is set where a walk goes from u to w
abbrev pub Reaching : (ℕ → ℕ → Bool) → List ℕ → Type 0
Reaching E reached = (u w : ℕ) → T (bit (get_or reached u 0) w) ↔ Walk E every u w

-- C is all that v reaches and is reached by
abbrev pub Around : (ℕ → ℕ → Bool) → ℕ → ℕ → Type 0
Around E v C = (w : ℕ) → T (bit C w) ↔ (Walk E every v w × Walk E every w v)

-- whether v is the lowest flip-flop of a component of E
abbrev pub Leads : (ℕ → ℕ → Bool) → ℕ → Bool → Type 0
Leads E v true = (C : ℕ) × Component E C × Lowest C v
Leads E v false = (C : ℕ) → Component E C → Lowest C v → ⊥

-- no flip-flop from `from` to v is the lowest of a component
abbrev pub NoneLeads : (ℕ → ℕ → Bool) → ℕ → ℕ → Type 0
NoneLeads E from v = (u C : ℕ) → from ≤ u → u < v → Component E C → Lowest C u → ⊥

-- the lowest flip-flop at or above `from` and below n that is the lowest of a component of E, or none where there is none
pub record IsNextComponent (E : ℕ → ℕ → Bool) (n from v : ℕ) : Type 0 where
  pub inner : (from ≤ v) × (v < n)
  pub leads : (C : ℕ) × Component E C × Lowest C v
  pub passed : NoneLeads E from v

abbrev pub NextComponent : (ℕ → ℕ → Bool) → ℕ → ℕ → Option Vertex → Type 0
NextComponent E n from r = MatchOption r (NoneLeads E from n) (λ v. IsNextComponent E n from v.0)

-- the lowest wide row, or that there is none
abbrev pub IsFirstWide : List ℕ → Option ℕ → Type 0
IsFirstWide rows r =
    MatchOption r (length rows ≤ lowest (length rows) (wide rows)) (λ v. (v < length rows) × (v ≡ lowest (length rows) (wide rows)))
