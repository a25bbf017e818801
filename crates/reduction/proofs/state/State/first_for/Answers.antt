-- The rule applies to this one, and to none before it.
use Rattle.std.proofs.Common.{◌∙◌, sym, below_more, length, arith}
use Rattle.masks.proofs.Lowest.{lowest-is, lowest-none}
use Rattle.reduction.proofs.state.State.first_for.Goals as goal

pub returns-then-suits : goal.returns-then-suits
returns-then-suits c =
    (c.loop-k-test.true, sym (lowest-is _ _ _ c.loop-k-test.true (sym c.suits.ensures ∙ c.if-suits.true) c.loop-k.invariant))

pub loop-k-preserved : goal.loop-k-preserved
loop-k-preserved c = below_more _ _ c.loop-k.invariant (sym c.suits.ensures ∙ c.if-suits.false)

pub returns : goal.returns
returns c =
    let n = length c.args.self.now.outs.now in
    omega (arith, lowest-none n _ (λ k l. c.loop-k.invariant k (omega arith)))
