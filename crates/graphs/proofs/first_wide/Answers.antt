-- The first row with a bit that is left once those below the number of rows are taken away.
use Rattle.std.proofs.Common.{◌≡◌, ◌≢◌, ◌-◌, ◌^◌, ◌+◌, ◌<◌, ◌∙◌, ℕ, List, Bool, not, false, length, get_or, eqb, ap, ap₂, sym, arith}
use native.Mathlib.Decide.{ℕ_discrete}
use Rattle.masks.specs.Sets.{minus}
use Rattle.masks.proofs.Lowest.{lowest-is, lowest-none}
use Rattle.masks.proofs.Words.{wide_test}
use Rattle.graphs.specs.Refusals.{wide}
use Rattle.graphs.proofs.first_wide.Goals as goal

-- the test of the code
tested : (rows : List ℕ) (v row all left : ℕ) (empty x : Bool) → row ≡ get_or rows v 0 → all ≡ 2 ^ length rows - 1 → left ≡ minus row all → empty ≡ eqb left 0
    → empty ≡ x → wide rows v ≡ not x
tested rows v row all left empty x r a l e t =
    wide_test (length rows) (get_or rows v 0) ∙ sym (ap₂ (λ (p q : ℕ). not (eqb (minus p q) 0)) r a) ∙ ap (λ (p : ℕ). not (eqb p 0)) (sym l) ∙ ap not (sym e ∙ t)

further : (rows : List ℕ) (v : ℕ) → ((w : ℕ) → w < v → wide rows w ≡ false) → wide rows v ≡ false → (w : ℕ) → w < v + 1 → wide rows w ≡ false
further rows v h e w l = go (ℕ_discrete w v)
  where
    go : Dec (w ≡ v) → wide rows w ≡ false
    go (yes q) = rw q e
    go (no q) =
        let q' : w ≢ v = q in
        h w (omega arith)

pub returns-then-not-is_empty : goal.returns-then-not-is_empty
returns-then-not-is_empty c =
    let t = tested _ _ _ _ _ _ _ c.row.ensures c.below-all.ensures c.without.ensures c.is_empty.ensures c.if-not-is_empty.true in
    (c.loop-v-test.true, sym (lowest-is _ _ _ c.loop-v-test.true t c.loop-v.invariant.1))

pub loop-v-preserved : goal.loop-v-preserved
loop-v-preserved c = (
  omega arith,
  further _ _ c.loop-v.invariant.1 (tested _ _ _ _ _ _ _ c.row.ensures c.below-all.ensures c.without.ensures c.is_empty.ensures c.if-not-is_empty.false),
)

pub returns : goal.returns
returns c =
    let rows = c.args.rows.now in
    omega (arith, lowest-none (length rows) (wide rows) (λ w l. c.loop-v.invariant.1 w (omega (arith, c.loop-v-test.false))))
