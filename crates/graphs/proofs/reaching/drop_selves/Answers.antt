use Rattle.std.proofs.Common.{arith}
use Rattle.graphs.proofs.Turns.{rowed-set}
use Rattle.graphs.proofs.InPlace.{plain_at, plain-all}
use Rattle.graphs.proofs.reaching.drop_selves.Goals as goal

pub loop-v-preserved : goal.loop-v-preserved
loop-v-preserved c = (
  omega arith,
  rowed-set _ _ _ _ _ _ (omega (arith, c.requires)) (plain_at _ _ _ _ c.row.ensures c.cut.ensures) c.set_row.ensures c.loop-v.invariant.1,
)

pub returns : goal.returns
returns c = plain-all _ _ _ _ c.requires.0 (omega arith) c.loop-v.invariant.1
