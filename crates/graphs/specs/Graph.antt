-- The graph of a block as lent, walks and loops of it. Assumes nothing.
use Rattle.std.specs.Prelude.{◌≡◌, ◌⊎◌, Bool, not, ◌&&◌, List, [], ◌∷◌, ℕ, suc, T, eqb, get_or}
use Rattle.masks.specs.Sets.{bit, cut}

-- "bit w of row v is set where an edge goes from v to w", and "edges from a flip-flop to itself are dropped before anything else"
unfoldable pub edge : List ℕ → ℕ → ℕ → Bool
edge rows v w = not (eqb v w) && bit (get_or rows v 0) w

-- the rows with self edges dropped; in `plain_from v`, row i of the list is that of flip-flop v + i
unfoldable pub plain_from : ℕ → List ℕ → List ℕ
plain_from v [] = []
plain_from v (r ∷ rs) = cut r v ∷ plain_from (suc v) rs

abbrev pub plain : List ℕ → List ℕ
plain rows = plain_from 0 rows

-- a flip-flop's cost
abbrev pub cost_of : List ℕ → ℕ → ℕ
cost_of costs v = get_or costs v 0

-- x is one of the list
abbrev pub Of : {A : Type 0} → A → List A → Type 0
Of x [] = ⊥
Of x (y ∷ ys) = (x ≡ y) ⊎ Of x ys

-- no two of the list are the same
abbrev pub Differ : {A : Type 0} → List A → Type 0
Differ [] = Unit {0}
Differ (x ∷ xs) = (Of x xs → ⊥) × Differ xs

-- a walk from u to w of one edge or more in the graph E, each flip-flop of it kept
pub data Walk (E : ℕ → ℕ → Bool) (K : ℕ → Bool) : ℕ → ℕ → Type 0 where
  edge_to : {u w : ℕ} → T (K u) → T (K w) → T (E u w) → Walk E K u w
  step_to : {u x w : ℕ} → T (K u) → T (E u x) → Walk E K x w → Walk E K u w

-- from u through the list to w: each step an edge, u and the listed ones kept
abbrev pub Chain : (ℕ → ℕ → Bool) → (ℕ → Bool) → ℕ → List ℕ → ℕ → Type 0
Chain E K u [] w = T (K u) × T (E u w)
Chain E K u (x ∷ xs) w = T (K u) × T (E u x) × Chain E K x xs w

-- "A loop is a closed walk through two or more different flip-flops, none twice": first, rest .., each with an edge to the next and the last with one
-- to the first, all kept. That there are two or more follows where the graph has no self edge (`loop-two`)
pub record Loop (E : ℕ → ℕ → Bool) (K : ℕ → Bool) : Type 0 where
  pub first : ℕ
  pub rest : List ℕ
  pub differ : Differ (first ∷ rest)
  pub chain : Chain E K first rest first
