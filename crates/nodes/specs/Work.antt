-- What the private functions of this crate promise each other; no part of document 01. Assumes nothing.
use Rattle.std.specs.Prelude.{Option, Some, None, ◌≡◌, ◌≢◌, ◌⊎◌, Bool, List, ℕ, suc, min, ◌-◌, ◌^◌, ◌≤◌, ◌<◌, length, get_or, set}
use Rattle.trees.specs.Tree.{Tree, mk, join_t}
use Rattle.nodes.specs.Codes.{variables, level, Stands, Held, Filled, Reach, home, Table}
use Rattle.nodes.specs.Promise.{noted, Memo}
use Rattle.nodes.specs.declared.Node.{Node}
use Rattle.nodes.specs.declared.joins.Parts.{Parts}

-- ---- searching for a word

-- the slots from a up to b are in use, and none of them holds w
pub record Skipped (ws : List ℕ) (w a b : ℕ) : Type 0 where
  pub filled : Filled ws a b
  pub absent : (j : ℕ) → a ≤ j → j < b → get_or ws j 0 ≢ w

-- the slot s holds w, or is not in use and all before it are passed
abbrev pub Scanned : List ℕ → ℕ → ℕ → ℕ → Option ℕ → Type 0
Scanned ws w a b (Some s) = (a ≤ s) × (s < b) × ((get_or ws s 0 ≡ w) ⊎ ((get_or ws s 0 ≡ 0) × Skipped ws w a s))
Scanned ws w a b None = Skipped ws w a b

-- the slot s is not in use, a search for w reaches it, and w is nowhere
pub record Open (ws : List ℕ) (w s : ℕ) : Type 0 where
  pub empty : get_or ws s 0 ≡ 0
  pub reached : Reach ws (home w (length ws)) s
  pub absent : (u : ℕ) → get_or ws u 0 ≢ w

abbrev pub Probed : List ℕ → ℕ → Option ℕ → Type 0
Probed ws w (Some s) = (s < length ws) × ((get_or ws s 0 ≡ w) ⊎ Open ws w s)
Probed ws w None = Skipped ws w 0 (length ws)

-- ---- joins

-- the number of variables that remain for a join
abbrev pub remaining : List ℕ → ℕ → ℕ → ℕ
remaining ws a b = variables - min (level ws a) (level ws b)

-- an answer is right in every room in order
abbrev pub EndsPromise : Bool → ℕ → ℕ → Option Node → Type 0
EndsPromise or a b (Some c) = (ws : List ℕ) (s t : Tree) → Table ws → Stands ws a s → Stands ws b t → Stands ws c.0 (join_t or s t)
EndsPromise or a b None = (2 ≤ a) × (2 ≤ b)

abbrev pub Recalled : List ℕ → Bool → ℕ → ℕ → Option Node → Type 0
Recalled ms or a b (Some c) = (i : ℕ) × (get_or ms i 0 ≡ noted or a b c.0) × (c.0 < 2 ^ 17)
Recalled ms or a b None = Unit {0}

abbrev pub Known : List ℕ → Bool → ℕ → ℕ → Option Node → Type 0
Known ms or a b (Some c) = (ws : List ℕ) (s t : Tree) → Table ws → Memo ws ms → Stands ws a s → Stands ws b t → Stands ws c.0 (join_t or s t)
Known ms or a b None = (2 ≤ a) × (2 ≤ b)

abbrev pub Remembered : List ℕ → List ℕ → Bool → ℕ → ℕ → ℕ → Type 0
Remembered ms ms' or a b r = (i : ℕ) × (ms' ≡ set ms i (noted or a b r))

-- the trees s and t of two nodes, taken apart at the lower variable
pub record Split (ws : List ℕ) (a b : ℕ) (p : Parts) (s t : Tree) : Type 0 where
  pub lower : p.v.0 ≡ min (level ws a) (level ws b)
  pub a0 : Held ws (suc p.v.0) p.a0.0
  pub a1 : Held ws (suc p.v.0) p.a1.0
  pub b0 : Held ws (suc p.v.0) p.b0.0
  pub b1 : Held ws (suc p.v.0) p.b1.0
  pub joins : (or : Bool) → join_t or s t ≡ mk p.v.0 (join_t or a0.tree b0.tree) (join_t or a1.tree b1.tree)

abbrev pub Splits : List ℕ → ℕ → ℕ → Parts → Type 0
Splits ws a b p = (s t : Tree) → Stands ws a s → Stands ws b t → Split ws a b p s t
