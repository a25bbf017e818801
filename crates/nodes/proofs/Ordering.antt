-- The plain facts of a room are those with trees: `IsTable` is `Table`, `IsMemo` is `Memo`. Assumes nothing.
use mathlib.Core.Path.{◌≡◌, refl, sym, ap, subst, ◌∙◌}
use mathlib.Core.Logic.{⊎_elim}
use mathlib.Core.Bool.{Bool, true, false}
use mathlib.Core.List.{List}
use Prim.Native.Nat.{ℕ, zero, suc, ◌+◌, ◌-◌, ◌/◌, ◌^◌, ◌≤◌, ◌<◌}
use native.Mathlib.Omega.{arith}
use lib.ListN.{get_or}
use Rattle.std.specs.Prelude.{leb}
use Rattle.masks.specs.Sets.{pick}
use Rattle.trees.specs.Tree.{Tree, eval, op, join_t, Ordered}
use Rattle.trees.proofs.Canonical.{canon}
use Rattle.trees.proofs.Joins.{join_t-eval, join_t-good, join_t-comm}
use Rattle.nodes.specs.Packing.{variable_of, low_of, high_of}
use Rattle.nodes.specs.Codes.{variables, word, Taken, Stands, is_off, is_on, is_br, Held, Reach, ahead, around, Fair, Table, Grows}
use Rattle.nodes.specs.Order.{IsCode, IsFair, IsReached, IsTable, tree_in, tree_of, or_of, left_of, right_of, join_of, IsRight, IsMemo}
use Rattle.nodes.specs.Promise.{pair, key, noted, Entry, Memo, Makeable, Joinable}
use Rattle.nodes.proofs.Slots.{lt-or-le}
use Rattle.nodes.proofs.Remembering.{memo-grows}
use Rattle.nodes.proofs.Standing.{stands_one, stands-small, stands_good, held}

-- ---- from trees to words

code_from : {ws : List ℕ} {k c : ℕ} {t : Tree} → Stands ws c t → Ordered k t → IsCode ws k c
code_from (is_off e) o = record { used = λ l. absurd (omega arith); above = λ l. absurd (omega arith) }
code_from (is_on e) o = record { used = λ l. absurd (omega arith); above = λ l. absurd (omega arith) }
code_from {ws} {k} {c} (is_br {v = v} p z e sl sh) o =
    let m : k ≤ v = o.0 in
    record { used = λ l. z; above = λ l. omega (arith, e, m) }

pub held-code : {ws : List ℕ} {k c : ℕ} → Held ws k c → IsCode ws k c
held-code h = code_from h.stands h.ordered

plain-reach : {ws : List ℕ} {h s : ℕ} → Reach ws h s → IsReached ws h s
plain-reach (ahead p f) = record { ahead = λ l. f; around = λ l. absurd (omega arith); first = λ l. absurd (omega arith) }
plain-reach (around f g) = record { ahead = λ l j p q. g j (omega arith) q; around = λ l. f; first = λ l. g }

pub plain-table : {ws : List ℕ} → Table ws → IsTable ws
plain-table {ws} T =
    record {
      small = T.small;
      fair =
          λ s k.
          let f : Fair ws (get_or ws s 0) = T.fair s k in
          record { variable = f.variable; low = held-code f.low; high = held-code f.high; differ = f.differ };
      once = T.once;
      reached = λ s k. plain-reach (T.reached s k);
    }

-- ---- from words to trees

full-reach : (ws : List ℕ) (h s : ℕ) → IsReached ws h s → Reach ws h s
full-reach ws h s r = ⊎_elim (λ l. around (r.around l) (r.first l)) (λ l. ahead l (r.ahead l)) (lt-or-le s h)

stands-in : (n k : ℕ) (ws : List ℕ) (c : ℕ) → variables ≤ n + k → IsTable ws → IsCode ws k c → Stands ws c (tree_in n ws c) × Ordered k (tree_in n ws c)
unfolding tree_in
stands-in n k ws zero l T i = (is_off refl, tt)
stands-in n k ws (suc zero) l T i = (is_on refl, tt)
stands-in zero k ws (suc (suc s)) l T i =
    let two : 2 ≤ suc (suc s) = omega arith in
    let f : IsFair ws (word ws (suc (suc s))) = T.fair (suc (suc s) - 2) (i.used two) in
    absurd (omega (arith, i.above two, f.variable))
stands-in (suc n) k ws (suc (suc s)) l T i =
    let two : 2 ≤ suc (suc s) = omega arith in
    let z : Taken ws (suc (suc s) - 2) = i.used two in
    let f : IsFair ws (word ws (suc (suc s))) = T.fair (suc (suc s) - 2) z in
    let a : k ≤ variable_of (word ws (suc (suc s))) = i.above two in
    let lo = stands-in n (suc (variable_of (word ws (suc (suc s))))) ws (low_of (word ws (suc (suc s)))) (omega arith) T f.low in
    let hi = stands-in n (suc (variable_of (word ws (suc (suc s))))) ws (high_of (word ws (suc (suc s)))) (omega arith) T f.high in
    (is_br {c = suc (suc s)} two z refl lo.0 hi.0, (a, lo.1, hi.1))

pub code-held : {ws : List ℕ} {k c : ℕ} → IsTable ws → IsCode ws k c → Held ws k c
code-held {ws} {k} {c} T i =
    let r = stands-in 64 k ws c (omega arith) T i in
    record { tree = tree_of ws c; stands = r.0; ordered = r.1 }

pub full-table : {ws : List ℕ} → IsTable ws → Table ws
full-table {ws} T =
    record {
      small = T.small;
      fair =
          λ s k.
          let f : IsFair ws (get_or ws s 0) = T.fair s k in
          record { variable = f.variable; low = code-held T f.low; high = code-held T f.high; differ = f.differ };
      once = T.once;
      reached = λ s k. full-reach ws _ s (T.reached s k);
    }

-- what a code stands for is its tree
pub stands-tree : {ws : List ℕ} {c : ℕ} → IsTable ws → IsCode ws 0 c → Stands ws c (tree_of ws c)
stands-tree {ws} {c} T i = (stands-in 64 0 ws c (omega arith) T i).0

tree-is : {ws : List ℕ} {c : ℕ} {t : Tree} → IsTable ws → Stands ws c t → tree_of ws c ≡ t
tree-is T s = stands_one (stands-tree T (held-code (held (full-table T) s))) s

-- ---- memo words

record Parted (or : Bool) (a b r w : ℕ) : Type 0 where
  operation : w / 2 ^ 51 ≡ pick or 1 0
  left : left_of w ≡ a
  right : right_of w ≡ b
  result : join_of w ≡ r

parted : (or : Bool) (a b r w : ℕ) → a < 2 ^ 17 → b < 2 ^ 17 → r < 2 ^ 17 → a ≤ b → w ≡ noted or a b r → Parted or a b r w
unfolding noted key pair
parted true a b r w l m n k e = record { operation = omega arith; left = omega arith; right = omega arith; result = omega arith }
parted false a b r w l m n k e = record { operation = omega arith; left = omega arith; right = omega arith; result = omega arith }

noted-swap : (or : Bool) (a b r : ℕ) → noted or a b r ≡ noted or b a r
unfolding noted key pair
noted-swap true a b r = omega arith
noted-swap false a b r = omega arith

or-is : (or : Bool) (n : ℕ) → n ≡ pick or 1 0 → leb 1 n ≡ or
or-is true n e = ap (leb 1) e
or-is false n e = ap (leb 1) e

right-sorted : {ws : List ℕ} {s t : Tree} (or : Bool) (a b r w : ℕ) → Table ws → a ≤ b → w ≡ noted or a b r → Stands ws a s → Stands ws b t
    → Stands ws r (join_t or s t) → IsRight ws w
right-sorted {ws} {s} {t} or a b r w T k e sa sb sr =
    let p : Parted or a b r w = parted or a b r w (stands-small T.small sa) (stands-small T.small sb) (stands-small T.small sr) k e in
    let q : IsTable ws = plain-table T in
    let sa' : Stands ws (left_of w) s = subst (λ c. Stands ws c s) (sym p.left) sa in
    let sb' : Stands ws (right_of w) t = subst (λ c. Stands ws c t) (sym p.right) sb in
    let sr' : Stands ws (join_of w) (join_t or s t) = subst (λ c. Stands ws c (join_t or s t)) (sym p.result) sr in
    record {
      operation = small or (w / 2 ^ 51) p.operation;
      sorted = omega (arith, p.left, p.right);
      left = held-code (held T sa');
      right = held-code (held T sb');
      result = held-code (held T sr');
      joins =
          λ m.
          ap (λ x. eval x m) (tree-is q sr') ∙ join_t-eval or s t m ∙ ap (λ o. op o (eval s m) (eval t m)) (sym (or-is or (w / 2 ^ 51) p.operation))
          ∙ ap (λ x. op (or_of w) (eval x m) (eval t m)) (sym (tree-is q sa')) ∙ ap (λ x. op (or_of w) (eval (tree_of ws (left_of w)) m) (eval x m)) (sym (tree-is q sb'));
    }
  where
    small : (o : Bool) (n : ℕ) → n ≡ pick o 1 0 → n < 2
    small true n i = omega arith
    small false n i = omega arith

pub plain-entry : {ws : List ℕ} {w : ℕ} → Table ws → Entry ws w → IsRight ws w
plain-entry {ws} {w} T e =
    ⊎_elim
    (λ l. right-sorted e.or e.b e.a e.r w T (omega arith) (e.is ∙ noted-swap e.or e.a e.b e.r) e.right e.left
    (subst (Stands ws e.r) (join_t-comm e.or e.s e.t 0 (stands_good T e.left) (stands_good T e.right)) e.joins))
    (λ l. right-sorted e.or e.a e.b e.r w T l e.is e.left e.right e.joins) (lt-or-le e.b e.a)

again : (n w : ℕ) → w / 2 ^ 51 ≡ n → n < 2 → left_of w ≤ right_of w → w ≡ noted (leb 1 n) (left_of w) (right_of w) (join_of w)
unfolding noted key pair
again zero w e l k = omega arith
again (suc zero) w e l k = omega arith
again (suc (suc n)) w e l k = absurd (omega arith)

pub full-entry : {ws : List ℕ} {w : ℕ} → IsTable ws → IsRight ws w → Entry ws w
full-entry {ws} {w} T r =
    let sa : Stands ws (left_of w) (tree_of ws (left_of w)) = stands-tree T r.left in
    let sb : Stands ws (right_of w) (tree_of ws (right_of w)) = stands-tree T r.right in
    let sr : Stands ws (join_of w) (tree_of ws (join_of w)) = stands-tree T r.result in
    let ga = stands_good (full-table T) sa in
    let gb = stands_good (full-table T) sb in
    let e : tree_of ws (join_of w) ≡ join_t (or_of w) (tree_of ws (left_of w)) (tree_of ws (right_of w)) =
    canon 0 0 _ _ (stands_good (full-table T) sr) (join_t-good (or_of w) _ _ 0 ga gb) (λ m. r.joins m ∙ sym (join_t-eval (or_of w) _ _ m)) in
    record {
      or = or_of w;
      a = left_of w;
      b = right_of w;
      r = join_of w;
      is = again (w / 2 ^ 51) w refl r.operation r.sorted;
      s = tree_of ws (left_of w);
      t = tree_of ws (right_of w);
      left = sa;
      right = sb;
      joins = subst (Stands ws (join_of w)) e sr;
    }

pub plain-memo : {ws : List ℕ} (ms : List ℕ) → Table ws → Memo ws ms → IsMemo ws ms
plain-memo ms T m = record { right = λ i k. plain-entry T (m i k) }

pub full-memo : {ws : List ℕ} (ms : List ℕ) → IsTable ws → IsMemo ws ms → Memo ws ms
full-memo ms T m i k = full-entry T (m.right i k)

-- one operation more leaves the memo right
pub memo-kept : {ws ws' : List ℕ} (ms : List ℕ) → IsTable ws → Table ws' → Grows ws ws' → IsMemo ws ms → IsMemo ws' ms
memo-kept ms T T' g m = plain-memo ms T' (memo-grows ms g (full-memo ms T m))

pub makeable_of : {ws : List ℕ} {v lo hi : ℕ} → IsTable ws → v < variables → Held ws (suc v) lo → Held ws (suc v) hi → Makeable ws v lo hi
makeable_of T k l h = record { table = full-table T; variable = k; low = l; high = h }

pub able : {ws : List ℕ} (ms : List ℕ) {a b : ℕ} → IsTable ws → IsMemo ws ms → Held ws 0 a → Held ws 0 b → Joinable ws ms a b
able ms T m h i = record { table = full-table T; memo = full-memo ms T m; left = h; right = i }
