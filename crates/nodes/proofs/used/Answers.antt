use Rattle.nodes.proofs.Clearing.{counting-one, counting-skip, counting-all}
use Rattle.nodes.proofs.used.Goals as goal
use Rattle.nodes.proofs.used.Goals.{then-word-ne0, else-word-ne0}

pub loop-word-preserved : goal.loop-word-preserved
loop-word-preserved c =
    elim c.if-word-ne0.branch [
      | then-word-ne0 w ↦ rw w.count-is (counting-one _ _ _ c.loop-word.invariant c.loop-word-test.true w.if-word-ne0.true)
      | else-word-ne0 w ↦ rw w.count-is (counting-skip _ _ _ c.loop-word.invariant c.loop-word-test.true w.if-word-ne0.false)
    ]

pub returns : goal.returns
returns c = counting-all _ _ _ c.loop-word.invariant c.loop-word-test.false
