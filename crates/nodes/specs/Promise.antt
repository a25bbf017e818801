-- What the operations on the rooms promise. Assumes nothing.
use Rattle.std.specs.Prelude.{Result, Ok, Err, ◌≡◌, Bool, List, ℕ, suc, min, max, ◌+◌, ◌*◌, ◌^◌, ◌<◌, length, get_or}
use Rattle.masks.specs.Sets.{pick}
use Rattle.graphs.specs.Graph.{Of}
use Rattle.trees.specs.Tree.{Tree, off, on, br, eval, mk, join_t, subs, subs_all, once}
use Rattle.nodes.specs.Codes.{variables, Taken, Stands, Held, Filled, Table, Grows}
use Rattle.nodes.specs.declared.Node.{Node}
use Rattle.nodes.specs.declared.Full.{Full}
use Rattle.nodes.specs.declared.Shape.{Shape}
use Rattle.nodes.specs.declared.Shape.TheVariants.{Off, On, Branch}

-- ---- one operation that was asked for the tree t

-- every new node is a part of t
abbrev pub Fresh : List ℕ → List ℕ → Tree → Type 0
Fresh ws ws' t = (s : ℕ) → get_or ws s 0 ≡ 0 → Taken ws' s → (u : Tree) × Of u (subs t) × Stands ws' (s + 2) u

-- done: the code c stands for t
pub record Built (ws ws' : List ℕ) (t : Tree) (c : ℕ) : Type 0 where
  pub table : Table ws'
  pub grows : Grows ws ws'
  pub fresh : Fresh ws ws' t
  pub stands : Stands ws' c t

-- full: every slot is in use, and some part of t stands nowhere
pub record Short (ws ws' : List ℕ) (t : Tree) : Type 0 where
  pub table : Table ws'
  pub grows : Grows ws ws'
  pub fresh : Fresh ws ws' t
  pub full : Filled ws' 0 (length ws')
  pub lacks : (u : Tree) × Of u (subs t) × ((c : ℕ) → Stands ws' c u → ⊥)

abbrev pub Outcome : List ℕ → List ℕ → Tree → Result Node Full → Type 0
Outcome ws ws' t (Ok c) = Built ws ws' t c.0
Outcome ws ws' t (Err f) = Short ws ws' t

-- ---- `make`

pub record Makeable (ws : List ℕ) (v lo hi : ℕ) : Type 0 where
  pub table : Table ws
  pub variable : v < variables
  pub low : Held ws (suc v) lo
  pub high : Held ws (suc v) hi

abbrev pub MakePromise : List ℕ → List ℕ → ℕ → ℕ → ℕ → Result Node Full → Type 0
MakePromise ws ws' v lo hi r = (l h : Tree) → Stands ws lo l → Stands ws hi h → Outcome ws ws' (mk v l h) r

-- ---- OR (true) and AND (false)

-- a word of the memo room packs an operation, two codes, the smaller one first, and the code of their join
unfoldable pub pair : ℕ → ℕ → ℕ
pair a b = min a b * 2 ^ 17 + max a b

unfoldable pub key : Bool → ℕ → ℕ → ℕ
key or a b = pick or (2 ^ 34) 0 + pair a b

unfoldable pub noted : Bool → ℕ → ℕ → ℕ → ℕ
noted or a b r = key or a b * 2 ^ 17 + r

pub record Entry (ws : List ℕ) (w : ℕ) : Type 0 where
  pub or : Bool
  pub a : ℕ
  pub b : ℕ
  pub r : ℕ
  pub is : w ≡ noted or a b r
  pub s : Tree
  pub t : Tree
  pub left : Stands ws a s
  pub right : Stands ws b t
  pub joins : Stands ws r (join_t or s t)

-- every word of the memo room is 0 or right
abbrev pub Memo : List ℕ → List ℕ → Type 0
Memo ws ms = (i : ℕ) → Taken ms i → Entry ws (get_or ms i 0)

pub record Joinable (ws ms : List ℕ) (a b : ℕ) : Type 0 where
  pub table : Table ws
  pub memo : Memo ws ms
  pub left : Held ws 0 a
  pub right : Held ws 0 b

pub record Joined (or : Bool) (ws ws' ms' : List ℕ) (a b : ℕ) (r : Result Node Full) : Type 0 where
  pub outcome : (s t : Tree) → Stands ws a s → Stands ws b t → Outcome ws ws' (join_t or s t) r
  pub memo : Memo ws' ms'

-- ---- what a code is, and its value

abbrev pub Shaped : List ℕ → Shape → Tree → Type 0
Shaped ws Off t = t ≡ off
Shaped ws On t = t ≡ on
Shaped ws (Branch v low high) t =
    (l : Tree) × (h : Tree) × (t ≡ br v.0 l h) × Stands ws low.0 l × Stands ws high.0 h

abbrev pub LookPromise : List ℕ → ℕ → Shape → Type 0
LookPromise ws c r = (t : Tree) → Stands ws c t → Shaped ws r t

abbrev pub ValuePromise : List ℕ → ℕ → ℕ → Bool → Type 0
ValuePromise ws c kept r = (t : Tree) → Stands ws c t → r ≡ eval t kept

-- ---- a list of trees, made one after the other

-- every node is a part of one of the trees
abbrev pub PartsOf : List ℕ → List Tree → Type 0
PartsOf ws ts = (s : ℕ) → Taken ws s → (u : Tree) × Of u (subs_all ts) × Stands ws (s + 2) u

-- the room holds the trees ts with their parts, and nothing else
pub record Room (ws : List ℕ) (ts : List Tree) : Type 0 where
  pub table : Table ws
  pub holds : (t : Tree) → Of t ts → (c : ℕ) × Stands ws c t
  pub exact : PartsOf ws ts

-- the trees ts have more different parts than there are words: their need exceeds the capacity (`over-need`)
abbrev pub Over : ℕ → List Tree → Type 0
Over capacity ts = capacity < length (once (subs_all ts))
