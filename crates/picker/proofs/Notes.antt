-- The memo of the walk to the lightest set: a zeroed room is right, what is read there is right, and so is the room after a node's best set was written.
-- Assumes nothing.
use mathlib.Core.Path.{◌≡◌, refl, sym, ap, ◌∙◌, subst}
use mathlib.Core.Logic.{◌≢◌}
use mathlib.Core.List.{List}
use mathlib.Core.Option.{some}
use Prim.Native.Nat.{ℕ, ◌+◌, ◌*◌, ◌-◌, ◌%◌, ◌^◌, ◌<◌}
use native.Mathlib.Omega.{arith}
use native.Mathlib.Decide.{ℕ_discrete}
use lib.Bits.{bit_and, bit_or, and_mask, or_shifted}
use lib.ListN.{length, get_or, set, length-set}
use lib.Seq.{get_or-set_same, get_or-set_other}
use Rattle.std.specs.Prelude.{Some}
use Rattle.masks.specs.Sets.{number, weight}
use Rattle.masks.proofs.Weights.{weight-none}
use Rattle.graphs.proofs.Lists.{all_alike}
use Rattle.trees.specs.Tree.{Tree, off}
use Rattle.nodes.specs.Codes.{Stands, is_off, is_on, is_br}
use Rattle.nodes.specs.Rooms.{zeroed}
use Rattle.picker.specs.Work.{Told, code_and_cost, code_in, cost_in, Weighed, BestMemo, Recalled, Remembered}
use Rattle.picker.specs.declared.best.Best.{Best}

-- ---- a word

pub code-noted : (code k : ℕ) → k < 2 ^ 40 → code_in (code_and_cost code k) ≡ code
unfolding code_in code_and_cost
code-noted code k l = omega arith

pub cost-noted : (code k : ℕ) → k < 2 ^ 40 → cost_in (code_and_cost code k) ≡ k
unfolding cost_in code_and_cost
cost-noted code k l = omega arith

-- shifts and masks compute the same
pub note-is : (code k : ℕ) → code < 2 ^ 17 → k < 2 ^ 40 → bit_or (code * 2 ^ 40 % 2 ^ 64) k ≡ code_and_cost code k
unfolding code_and_cost
note-is code k l h =
    let e : code * 2 ^ 40 % 2 ^ 64 ≡ code * 2 ^ 40 = omega arith in
    rw e (or_shifted code 40 k h)

pub cost-masked : (w : ℕ) → bit_and w (2 ^ 40 - 1) ≡ cost_in w
unfolding cost_in
cost-masked w = and_mask w 40

-- ---- a zeroed room

stands-zero : {ws : List ℕ} {c : ℕ} {t : Tree} → c ≡ 0 → Stands ws c t → t ≡ off
stands-zero e (is_off z) = refl
stands-zero e (is_on z) = absurd (omega arith)
stands-zero e (is_br two k f l h) = absurd (omega arith)

pub memo-none : (c : ℕ → ℕ) (n : ℕ) (ws old ms : List ℕ) → ms ≡ zeroed old → BestMemo c n ws ms
unfolding code_in cost_in
memo-none c n ws old ms e i t s =
    let at : (j : ℕ) → get_or ms j 0 ≡ 0 = λ j. ap (λ xs. get_or xs j 0) e ∙ all_alike 0 (length old) j in
    rw (at (2 * i), at (2 * i + 1), stands-zero (ap code_in (at (2 * i))) s) (record { set = refl; cost = sym (weight-none c n) })

-- ---- reading

pub recalled : (ms : List ℕ) (code i : ℕ) (b : Best) → code_in (get_or ms (2 * i) 0) ≡ code → b.cost ≡ cost_in (get_or ms (2 * i) 0)
    → number b.set ≡ get_or ms (2 * i + 1) 0 → Recalled ms code (Some b)
recalled ms code i b e f g c n ws m t s =
    let w : Weighed c n t (cost_in (get_or ms (2 * i) 0)) (get_or ms (2 * i + 1) 0) = m i t (subst (λ x. Stands ws x t) (sym e) s) in
    record { set = ap some g ∙ sym w.set; priced = f ∙ w.cost ∙ ap (weight c n) (sym g) }

-- ---- writing

pub remembered : (ms ms' : List ℕ) (code i : ℕ) (b : Best) → 2 * i + 1 < length ms → b.cost < 2 ^ 40
    → ms' ≡ set (set ms (2 * i) (code_and_cost code b.cost)) (2 * i + 1) (number b.set) → Remembered ms ms' code b
remembered ms ms' code i b l h e c n ws m told j t s = go (ℕ_discrete j i)
  where
    once : List ℕ
    once = set ms (2 * i) (code_and_cost code b.cost)

    at : (x : ℕ) → get_or ms' x 0 ≡ get_or (set once (2 * i + 1) (number b.set)) x 0
    at x = ap (λ xs. get_or xs x 0) e

    go : Dec (j ≡ i) → Weighed c n t (cost_in (get_or ms' (2 * j) 0)) (get_or ms' (2 * j + 1) 0)
    go (yes q) =
        let q' : j ≡ i = q in
        let first : get_or ms' (2 * j) 0 ≡ code_and_cost code b.cost =
        at (2 * j) ∙ get_or-set_other once (2 * i + 1) (2 * j) (number b.set) 0 (omega arith) ∙ ap (λ x. get_or once (2 * x) 0) q
        ∙ get_or-set_same ms (2 * i) (code_and_cost code b.cost) 0 (omega arith) in
        let second : get_or ms' (2 * j + 1) 0 ≡ number b.set =
        at (2 * j + 1) ∙ ap (λ x. get_or (set once (2 * i + 1) (number b.set)) (2 * x + 1) 0) q
        ∙ get_or-set_same once (2 * i + 1) (number b.set) 0 (omega (arith, length-set ms (2 * i) (code_and_cost code b.cost))) in
        let r : Told c n t (Some b) = told t (subst (λ x. Stands ws x t) (ap code_in first ∙ code-noted code b.cost h) s) in
        rw (first, second, cost-noted code b.cost h) (record { set = sym r.set; cost = r.priced })
    go (no q) =
        let q' : j ≢ i = q in
        let first : get_or ms' (2 * j) 0 ≡ get_or ms (2 * j) 0 =
        at (2 * j) ∙ get_or-set_other once (2 * i + 1) (2 * j) (number b.set) 0 (omega arith)
        ∙ get_or-set_other ms (2 * i) (2 * j) (code_and_cost code b.cost) 0 (omega arith) in
        let second : get_or ms' (2 * j + 1) 0 ≡ get_or ms (2 * j + 1) 0 =
        at (2 * j + 1) ∙ get_or-set_other once (2 * i + 1) (2 * j + 1) (number b.set) 0 (omega arith)
        ∙ get_or-set_other ms (2 * i) (2 * j + 1) (code_and_cost code b.cost) 0 (omega arith) in
        rw (first, second) (m j t (subst (λ x. Stands ws (code_in x) t) first s))
