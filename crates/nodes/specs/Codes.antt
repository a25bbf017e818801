-- What a code stands for in a room of words, and what holds of the words of a room. Assumes nothing.
use Rattle.std.specs.Prelude.{◌≡◌, ◌≢◌, List, ℕ, suc, ◌+◌, ◌*◌, ◌-◌, ◌/◌, ◌%◌, ◌^◌, ◌≤◌, ◌<◌, ltb, length, get_or}
use Rattle.masks.specs.Sets.{pick}
use Rattle.trees.specs.Tree.{Tree, off, on, br, Ordered}
use Rattle.nodes.specs.Packing.{variable_of, low_of, high_of}

-- "ordered by flip-flop number": variables are numbers of flip-flops, below 64
abbrev pub variables : ℕ
variables = 64

-- the word of a code that is no constant: 0 and 1 are the constants, slot + 2 is a node
abbrev pub word : List ℕ → ℕ → ℕ
word ws c = get_or ws (c - 2) 0

-- the variable of a code, past all of them for a constant
abbrev pub level : List ℕ → ℕ → ℕ
level ws c = pick (ltb c 2) variables (variable_of (word ws c))

-- slot s is in use
abbrev pub Taken : List ℕ → ℕ → Type 0
Taken ws s = get_or ws s 0 ≢ 0

-- the code c stands for a tree
pub data Stands (ws : List ℕ) : ℕ → Tree → Type 0 where
  is_off : {c : ℕ} → c ≡ 0 → Stands ws c off
  is_on : {c : ℕ} → c ≡ 1 → Stands ws c on
  is_br : {c v : ℕ} {l h : Tree} → 2 ≤ c → Taken ws (c - 2) → variable_of (word ws c) ≡ v
      → Stands ws (low_of (word ws c)) l → Stands ws (high_of (word ws c)) h → Stands ws c (br v l h)

-- the code c stands for some tree of variables from k on
pub record Held (ws : List ℕ) (k c : ℕ) : Type 0 where
  pub tree : Tree
  pub stands : Stands ws c tree
  pub ordered : Ordered k tree

-- every slot from a up to b is in use
abbrev pub Filled : List ℕ → ℕ → ℕ → Type 0
Filled ws a b = (j : ℕ) → a ≤ j → j < b → Taken ws j

-- where the search for a word begins, in a room of n words
unfoldable pub mixed : ℕ → ℕ
mixed w = (w % 2 ^ 21 * 0x279_e377_9b97 + w / 2 ^ 21 * 0x1a5_5c32_1e6b) / 2 ^ 10 % 2 ^ 32

unfoldable pub home : ℕ → ℕ → ℕ
home w n = pick (ltb n (2 ^ 32)) (mixed w * n / 2 ^ 32) (mixed w)

-- a search that begins at h, and goes on at 0 after the last slot, meets no slot before s that is not in use
pub data Reach (ws : List ℕ) (h s : ℕ) : Type 0 where
  ahead : h ≤ s → Filled ws h s → Reach ws h s
  around : Filled ws h (length ws) → Filled ws 0 s → Reach ws h s

abbrev pub Reaches : List ℕ → Type 0
Reaches ws = (s : ℕ) → Taken ws s → Reach ws (home (get_or ws s 0) (length ws)) s

-- a word that may be in use: its branches differ, and stand for trees of larger variables
pub record Fair (ws : List ℕ) (w : ℕ) : Type 0 where
  pub variable : variable_of w < variables
  pub low : Held ws (suc (variable_of w)) (low_of w)
  pub high : Held ws (suc (variable_of w)) (high_of w)
  pub differ : low_of w ≢ high_of w

-- a room in order: its words are fair, no two are the same, and each is found
pub record Table (ws : List ℕ) : Type 0 where
  pub small : length ws ≤ 65536
  pub fair : (s : ℕ) → Taken ws s → Fair ws (get_or ws s 0)
  pub once : (s u : ℕ) → Taken ws s → get_or ws s 0 ≡ get_or ws u 0 → s ≡ u
  pub reached : Reaches ws

-- ws' is ws with words in slots that were not in use: so every code of ws stands in ws' for what it stood for
pub record Grows (ws ws' : List ℕ) : Type 0 where
  pub size : length ws' ≡ length ws
  pub keeps : (s : ℕ) → Taken ws s → get_or ws' s 0 ≡ get_or ws s 0
