-- Decision trees: functions of the kept set, one decision a flip-flop, "ordered by flip-flop number, lowest on top". Assumes nothing.
use Rattle.std.specs.Prelude.{◌≢◌, Bool, true, false, ◌||◌, ◌&&◌, List, [], ◌∷◌, ◌++◌}
use Prim.Native.Nat.{ℕ, suc, ◌≤◌, compare, Ordering}
use Rattle.std.proofs.Math.Decide.{ℕ_discrete}
use Rattle.masks.specs.Sets.{bit, pick}

-- the constants 0 and 1, and `br v l h`: h where the flip-flop v is kept, l where it is not
pub data Tree : Type 0 where
  off on : Tree
  br : ℕ → Tree → Tree → Tree
  deriving Discrete as Tree-discrete

-- "Functions are of kept variables, 1 for kept": the value at a kept set that is given by a test
abbrev pub at : Tree → (ℕ → Bool) → Bool
at off K = false
at on K = true
at (br v l h) K = pick (K v) (at h K) (at l K)

-- the value at a kept set that is given by its mask
abbrev pub eval : Tree → ℕ → Bool
eval t m = at t (bit m)

-- "ordered by flip-flop number, lowest on top": the variables increase downwards, from b on
abbrev pub Ordered : ℕ → Tree → Type 0
Ordered b off = Unit {0}
Ordered b on = Unit {0}
Ordered b (br v l h) = (b ≤ v) × Ordered (suc v) l × Ordered (suc v) h

-- no decision has two equal sides
abbrev pub Reduced : Tree → Type 0
Reduced off = Unit {0}
Reduced on = Unit {0}
Reduced (br v l h) = (l ≢ h) × Reduced l × Reduced h

-- a decision, or its side where both are equal
abbrev pub mk_if : {A : Type 0} → Dec A → Tree → Tree → Tree
mk_if (yes e) s t = s
mk_if (no k) s t = t

unfoldable pub mk : ℕ → Tree → Tree → Tree
mk v l h = mk_if (Tree-discrete ℕ_discrete l h) l (br v l h)

-- OR and AND: `op true` is OR, `op false` is AND
abbrev pub op : Bool → Bool → Bool → Bool
op true a b = a || b
op false a b = a && b

-- one of three, by how two variables compare
abbrev pub pick3 : Ordering → Tree → Tree → Tree → Tree
pick3 Ordering.lt a b c = a
pick3 Ordering.eq a b c = b
pick3 Ordering.gt a b c = c

-- "Joining two functions goes down both by the lower variable, one decision at a time": `br v l h` joined with a tree, where `fl` and `fh` join
-- l and h with a tree
unfoldable pub join_br : Bool → ℕ → Tree → Tree → (Tree → Tree) → (Tree → Tree) → Tree → Tree
join_br z v l h fl fh off = pick z (br v l h) off
join_br z v l h fl fh on = pick z on (br v l h)
join_br z v l h fl fh (br w p q) =
    pick3 (compare v w) (mk v (fl (br w p q)) (fh (br w p q))) (mk v (fl p) (fh q)) (mk w (join_br z v l h fl fh p) (join_br z v l h fl fh q))

-- the OR or AND of two trees
unfoldable pub join_t : Bool → Tree → Tree → Tree
join_t z off t = pick z t off
join_t z on t = pick z on t
join_t z (br v l h) t = join_br z v l h (join_t z l) (join_t z h) t

-- the decisions of a tree, each as the tree that it begins; and those of some trees
abbrev pub subs : Tree → List Tree
subs off = []
subs on = []
subs (br v l h) = br v l h ∷ (subs l ++ subs h)

abbrev pub subs_all : List Tree → List Tree
subs_all [] = []
subs_all (t ∷ ts) = subs t ++ subs_all ts

-- whether a tree is one of the list
abbrev pub is_yes : {A : Type 0} → Dec A → Bool
is_yes (yes e) = true
is_yes (no k) = false

abbrev pub has : Tree → List Tree → Bool
has x [] = false
has x (y ∷ ys) = is_yes (Tree-discrete ℕ_discrete x y) || has x ys

-- each of the list once
abbrev pub once : List Tree → List Tree
once [] = []
once (x ∷ xs) = pick (has x (once xs)) (once xs) (x ∷ once xs)
