-- What codes stand for: one tree each, which is good where the room is in order; each tree has one code; and what they stand for stays as the room grows.
-- Shown by induction on what the code stands for. Assumes nothing.
use mathlib.Core.Path.{◌≡◌, refl, sym, ap, subst, ◌∙◌}
use mathlib.Core.Logic.{◌≢◌, ◌↔◌}
use mathlib.Core.List.{List}
use Prim.Native.Nat.{ℕ, suc, ◌+◌, ◌-◌, ◌^◌, ◌≤◌, ◌<◌}
use native.Mathlib.Omega.{arith}
use lib.ListN.{length, get_or}
use borrow.Author.Tests.{lt-ltb, le-ltb}
use Rattle.trees.specs.Tree.{Tree, br, Ordered, Reduced}
use Rattle.trees.proofs.Canonical.{Good, Same, canon}
use Rattle.nodes.specs.Packing.{packed, variable_of, low_of, high_of}
use Rattle.nodes.specs.Codes.{variables, word, level, Taken, Stands, is_off, is_on, is_br, Held, Fair, Table, Grows}
use Rattle.nodes.proofs.Packings.{packed-variable, packed-low, packed-high, packed-again, packed-nonzero}
use Rattle.nodes.proofs.Slots.{taken-lt, grows-taken}

-- ---- as the room grows

pub stands-grows : {ws ws' : List ℕ} {c : ℕ} {t : Tree} → Grows ws ws' → Stands ws c t → Stands ws' c t
stands-grows g (is_off e) = is_off e
stands-grows g (is_on e) = is_on e
stands-grows {ws} {ws'} g (is_br {c = c} {l = l} {h = h} p z e sl sh) =
    let k : word ws' c ≡ word ws c = g.keeps (c - 2) z in
    is_br {l = l} {h = h} p (grows-taken g (c - 2) z) (ap variable_of k ∙ e) (rw k (stands-grows g sl)) (rw k (stands-grows g sh))

abbrev pub held-grows : {ws ws' : List ℕ} {k c : ℕ} → Grows ws ws' → Held ws k c → Held ws' k c
held-grows g h = record { tree = h.tree; stands = stands-grows g h.stands; ordered = h.ordered }

-- ---- one tree, one code

pub stands_one : {ws : List ℕ} {c : ℕ} {t u : Tree} → Stands ws c t → Stands ws c u → t ≡ u
stands_one (is_off e) (is_off f) = refl
stands_one (is_off e) (is_on f) = absurd (omega arith)
stands_one (is_off e) (is_br p z f l h) = absurd (omega arith)
stands_one (is_on e) (is_off f) = absurd (omega arith)
stands_one (is_on e) (is_on f) = refl
stands_one (is_on e) (is_br p z f l h) = absurd (omega arith)
stands_one (is_br p z e l h) (is_off f) = absurd (omega arith)
stands_one (is_br p z e l h) (is_on f) = absurd (omega arith)
stands_one (is_br p z e l h) (is_br q y f m i) = λ j. br ((sym e ∙ f) j) (stands_one l m j) (stands_one h i j)

pub stands-code : {ws : List ℕ} {c d : ℕ} {t : Tree} → Table ws → Stands ws c t → Stands ws d t → c ≡ d
stands-code T (is_off e) (is_off f) = e ∙ sym f
stands-code T (is_on e) (is_on f) = e ∙ sym f
stands-code {ws} T (is_br {c = c} p z e l h) (is_br {c = d} q y f m i) =
    let a : low_of (word ws c) ≡ low_of (word ws d) = stands-code T l m in
    let b : high_of (word ws c) ≡ high_of (word ws d) = stands-code T h i in
    let k : word ws c ≡ word ws d =
    sym (packed-again (word ws c)) ∙ (λ j. packed ((e ∙ sym f) j) (a j) (b j)) ∙ packed-again (word ws d) in
    omega (arith, T.once (c - 2) (d - 2) z k)

-- ---- codes are small, and those of nodes have a slot

pub stands-small : {ws : List ℕ} {c : ℕ} {t : Tree} → length ws ≤ 65536 → Stands ws c t → c < 2 ^ 17
stands-small n (is_off e) = omega arith
stands-small n (is_on e) = omega arith
stands-small {ws} n (is_br {c = c} p z e l h) = omega (arith, taken-lt ws (c - 2) z)

pub stands-taken : {ws : List ℕ} {c : ℕ} {t : Tree} → 2 ≤ c → Stands ws c t → Taken ws (c - 2)
stands-taken p (is_off e) = absurd (omega arith)
stands-taken p (is_on e) = absurd (omega arith)
stands-taken p (is_br q z e a b) = z

-- ---- nodes

-- the slot of a node's word
pub node-stands : {ws : List ℕ} {l h : Tree} (s v low high : ℕ) → low < 2 ^ 17 → high < 2 ^ 17 → low ≢ high → get_or ws s 0 ≡ packed v low high
    → Stands ws low l → Stands ws high h → Stands ws (s + 2) (br v l h)
node-stands {ws} {l} {h} s v low high a b d e sl sh =
    let k : s + 2 - 2 ≡ s = omega arith in
    let w : word ws (s + 2) ≡ packed v low high = ap (λ (i : ℕ). get_or ws i 0) k ∙ e in
    is_br {c = s + 2} (omega arith) (λ z. packed-nonzero v low high d (sym w ∙ z)) (ap variable_of w ∙ packed-variable v low high a b)
    (subst (λ (i : ℕ). Stands ws i l) (sym (ap low_of w ∙ packed-low v low high a b)) sl)
    (subst (λ (i : ℕ). Stands ws i h) (sym (ap high_of w ∙ packed-high v low high a b)) sh)

-- the word of a code that stands for a branch
pub node-word : {ws : List ℕ} {c v low high : ℕ} {l h : Tree} → Table ws → Stands ws c (br v l h) → Stands ws low l → Stands ws high h
    → word ws c ≡ packed v low high
node-word {ws} T (is_br {c = c} p z e sl sh) ql qh =
    sym (packed-again (word ws c)) ∙ (λ j. packed (e j) (stands-code T sl ql j) (stands-code T sh qh j))

pub node-taken : {ws : List ℕ} {c v : ℕ} {l h : Tree} → Stands ws c (br v l h) → Taken ws (c - 2)
node-taken (is_br p z e sl sh) = z

-- ---- good trees

-- the sides of a branch have larger variables, and differ
pub record Sides (v : ℕ) (l h : Tree) : Type 0 where
  pub variable : v < variables
  pub low : Ordered (suc v) l
  pub high : Ordered (suc v) h
  pub differ : l ≢ h

pub node-sides : {ws : List ℕ} {c v : ℕ} {l h : Tree} → Table ws → Stands ws c (br v l h) → Sides v l h
node-sides {ws} {c} {v} {l} {h} T (is_br p z e sl sh) =
    let f : Fair ws (word ws c) = T.fair (c - 2) z in
    let vl : f.low.tree ≡ l = stands_one f.low.stands sl in
    let vh : f.high.tree ≡ h = stands_one f.high.stands sh in
    record {
      variable = omega (arith, f.variable);
      low = subst (λ (i : ℕ). Ordered (suc i) l) e (subst (Ordered (suc (variable_of (word ws c)))) vl f.low.ordered);
      high = subst (λ (i : ℕ). Ordered (suc i) h) e (subst (Ordered (suc (variable_of (word ws c)))) vh f.high.ordered);
      differ = λ k. f.differ (stands-code T sl (rw k sh));
    }

pub stands-reduced : {ws : List ℕ} {c : ℕ} {t : Tree} → Table ws → Stands ws c t → Reduced t
stands-reduced T (is_off e) = tt
stands-reduced T (is_on e) = tt
stands-reduced {ws} {c} T (is_br {v = v} {l = l} {h = h} p z e sl sh) =
    ((node-sides {c = c} {v = v} {l = l} {h = h} T (is_br p z e sl sh)).differ, stands-reduced T sl, stands-reduced T sh)

pub stands-ordered : {ws : List ℕ} {c : ℕ} {t : Tree} → Table ws → Stands ws c t → Ordered 0 t
stands-ordered T (is_off e) = tt
stands-ordered T (is_on e) = tt
stands-ordered {ws} {c} T (is_br {v = v} {l = l} {h = h} p z e sl sh) =
    let s : Sides v l h = node-sides {c = c} T (is_br p z e sl sh) in
    (omega arith, s.low, s.high)

pub stands_good : {ws : List ℕ} {c : ℕ} {t : Tree} → Table ws → Stands ws c t → Good 0 t
stands_good T s = record { ordered = stands-ordered T s; reduced = stands-reduced T s }

pub held : {ws : List ℕ} {c : ℕ} {t : Tree} → Table ws → Stands ws c t → Held ws 0 c
held {t = t} T s = record { tree = t; stands = s; ordered = stands-ordered T s }

-- equal codes exactly for equal functions
pub same_codes : {ws : List ℕ} {a b : ℕ} {s t : Tree} → Table ws → Stands ws a s → Stands ws b t → (a ≡ b) ↔ Same s t
same_codes {s = s} {t = t} T p q = (
  (λ e m. ap (λ (x : Tree). Rattle.trees.specs.Tree.eval x m) (stands_one (rw e at p) q)),
  λ e. stands-code T p (rw (canon 0 0 s t (stands_good T p) (stands_good T q) e) q),
)

-- ---- levels

pub level-node : (ws : List ℕ) (c : ℕ) → 2 ≤ c → level ws c ≡ variable_of (word ws c)
level-node ws c p = rw (le-ltb c 2 p)

-- of a branch
pub level-br : {ws : List ℕ} {c v : ℕ} {l h : Tree} → Stands ws c (br v l h) → level ws c ≡ v
level-br {ws} {c} (is_br p z e sl sh) = level-node ws c p ∙ e

pub level-above : {ws : List ℕ} {k c : ℕ} {t : Tree} → k ≤ variables → Stands ws c t → Ordered k t → k ≤ level ws c
level-above {c = c} l (is_off e) o = rw (lt-ltb c 2 (omega arith)) l
level-above {c = c} l (is_on e) o = rw (lt-ltb c 2 (omega arith)) l
level-above {ws} {k} {c} l (is_br {v = v} p z e sl sh) o =
    let m : k ≤ v = o.0 in
    rw (le-ltb c 2 p) (omega arith)
