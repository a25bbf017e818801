use Rattle.std.proofs.Common.{◌≡◌, refl, ◌∙◌, ap, arith, List, ℕ, length, slice_index_or}
use Rattle.nodes.proofs.Ordering.{full-table}
use Rattle.cycles.proofs.Passing.{pass-none, may-join, may-sum, pass-full, pass-back, pass-other, pass-done}
use Rattle.cycles.proofs.making.pass.Goals as goal

-- an entry of the order, out of the slice that it is read from
at : {xs ys : List ℕ} (k : ℕ) → xs ≡ ys → slice_index_or xs k 0 ≡ slice_index_or ys k 0
at k e = ap (λ zs. slice_index_or zs k 0) e

pub loop-i-init : goal.loop-i-init
loop-i-init c =
    (refl, refl, omega (arith, ap length c.as_slice-ended.ensures.value), λ rows C j r. pass-none rows C j _ _ _ _ _ r _ (ap length c.as_slice-ended.ensures.value) _ (full-table c.args.rooms.now.table) c.told-table c.told-next)

pub product-requires-clause-variable : goal.product-requires-clause-variable
product-requires-clause-variable c =
    let i = c.loop-i.invariant in
    may-join _ _ _ _ _ _ _ _ c.requires.3 _ _ _ _ c.loop-i-test.true i.2 (i.3 _ _ _ c.requires.3) _ (at _ c.as_slice-ended.ensures.value) _ refl

pub product-requires-clause-table : goal.product-requires-clause-table
product-requires-clause-table c =
    let i = c.loop-i.invariant in
    may-sum _ _ _ _ _ _ _ _ c.requires.3 _ _ _ _ c.loop-i-test.true i.2 (i.3 _ _ _ c.requires.3) _ (at _ c.as_slice-ended.ensures.value) _ c.row.ensures

pub returns-in_err-node-clause-passed : goal.returns-in_err-node-clause-passed
returns-in_err-node-clause-passed c rows C j r =
    let i = c.loop-i.invariant in
    pass-full rows C j _ _ _ _ _ r _ _ _ _ c.loop-i-test.true i.2 (i.3 _ _ _ r) _ (at _ c.as_slice-ended.ensures.value) _ _ _ _ refl c.row.ensures c.in_err-node.ensures.made
    c.loop-i.table c.loop-i.next _ c.from_residual.ensures.0

pub loop-i-preserved-then-has : goal.loop-i-preserved-then-has
loop-i-preserved-then-has c =
    let i = c.loop-i.invariant in (
      c.product.ensures.same_nodes ∙ i.0,
      c.product.ensures.same_memo ∙ i.1,
      omega arith,
      λ rows C j r.
          pass-back rows C j _ _ _ _ _ r _ _ _ _ c.loop-i-test.true i.2 (i.3 _ _ _ r) _ (at _ c.as_slice-ended.ensures.value) _ _ _ _ refl c.row.ensures c.in_ok-node.ensures.made
          _ _ c.has.ensures c.if-has.true refl,
    )

pub loop-i-preserved : goal.loop-i-preserved
loop-i-preserved c =
    let i = c.loop-i.invariant in (
      c.product.ensures.same_nodes ∙ i.0,
      c.product.ensures.same_memo ∙ i.1,
      omega arith,
      λ rows C j r.
          pass-other rows C j _ _ _ _ _ r _ _ _ _ c.loop-i-test.true i.2 (i.3 _ _ _ r) _ (at _ c.as_slice-ended.ensures.value) _ _ _ _ refl c.row.ensures c.in_ok-node.ensures.made
          _ _ c.has.ensures c.if-has.false refl,
    )

pub returns-clause-passed : goal.returns-clause-passed
returns-clause-passed c rows C j r = pass-done rows C j _ _ _ _ _ r _ _ _ _ (omega arith) (c.loop-i.invariant.3 _ _ _ r)
