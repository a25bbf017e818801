-- The same of a room of words as `Table` and `Memo` say, in facts that have one proof at most, so that a struct can keep them: of words alone, with no tree
-- beside them, since the tree of a code is computed. Assumes nothing.
use Rattle.std.specs.Prelude.{◌≡◌, ◌≢◌, Bool, List, ℕ, zero, suc, ◌-◌, ◌/◌, ◌%◌, ◌^◌, ◌≤◌, ◌<◌, leb, length, get_or}
use Rattle.trees.specs.Tree.{Tree, off, on, br, eval, op}
use Rattle.nodes.specs.Packing.{variable_of, low_of, high_of}
use Rattle.nodes.specs.Codes.{variables, word, Taken, Filled, home}

-- a constant, or a slot in use of a variable from k on
pub record IsCode (ws : List ℕ) (k c : ℕ) : Type 0 where
  pub used : 2 ≤ c → Taken ws (c - 2)
  pub above : 2 ≤ c → k ≤ variable_of (word ws c)

-- the word of a node is in order: it decides a flip-flop, its branches are codes of larger variables, and they differ
pub record IsFair (ws : List ℕ) (w : ℕ) : Type 0 where
  pub variable : variable_of w < variables
  pub low : IsCode ws (suc (variable_of w)) (low_of w)
  pub high : IsCode ws (suc (variable_of w)) (high_of w)
  pub differ : low_of w ≢ high_of w

-- a search from the slot h on, and from the first slot on after the last, meets no free slot before s
pub record IsReached (ws : List ℕ) (h s : ℕ) : Type 0 where
  pub ahead : h ≤ s → Filled ws h s
  pub around : s < h → Filled ws h (length ws)
  pub first : s < h → Filled ws 0 s

-- a room is in order: it has at most 65,536 words, each that is in use is in order, stands once, and is reached from its home
pub record IsTable (ws : List ℕ) : Type 0 where
  pub small : length ws ≤ 65536
  pub fair : (s : ℕ) → Taken ws s → IsFair ws (get_or ws s 0)
  pub once : (s u : ℕ) → Taken ws s → get_or ws s 0 ≡ get_or ws u 0 → s ≡ u
  pub reached : (s : ℕ) → Taken ws s → IsReached ws (home (get_or ws s 0) (length ws)) s

-- what a code stands for, down n decisions at most
unfoldable pub tree_in : ℕ → List ℕ → ℕ → Tree
tree_in n ws zero = off
tree_in n ws (suc zero) = on
tree_in zero ws (suc (suc s)) = off
tree_in (suc n) ws (suc (suc s)) =
    br (variable_of (word ws (suc (suc s)))) (tree_in n ws (low_of (word ws (suc (suc s))))) (tree_in n ws (high_of (word ws (suc (suc s)))))

-- down 64 decisions, as many as there are variables
abbrev pub tree_of : List ℕ → ℕ → Tree
tree_of ws c = tree_in 64 ws c

-- a memo word, taken apart
abbrev pub or_of : ℕ → Bool
or_of w = leb 1 (w / 2 ^ 51)

abbrev pub left_of : ℕ → ℕ
left_of w = w / 2 ^ 34 % 2 ^ 17

abbrev pub right_of : ℕ → ℕ
right_of w = w / 2 ^ 17 % 2 ^ 17

abbrev pub join_of : ℕ → ℕ
join_of w = w % 2 ^ 17

-- a memo word is right for the room: an operation, two codes, the smaller one first, and the code of their join
pub record IsRight (ws : List ℕ) (w : ℕ) : Type 0 where
  pub operation : w / 2 ^ 51 < 2
  pub sorted : left_of w ≤ right_of w
  pub left : IsCode ws 0 (left_of w)
  pub right : IsCode ws 0 (right_of w)
  pub result : IsCode ws 0 (join_of w)
  pub joins : (m : ℕ) → eval (tree_of ws (join_of w)) m ≡ op (or_of w) (eval (tree_of ws (left_of w)) m) (eval (tree_of ws (right_of w)) m)

-- each memo word in use is right for the room
pub record IsMemo (ws ms : List ℕ) : Type 0 where
  pub right : (i : ℕ) → Taken ms i → IsRight ws (get_or ms i 0)
