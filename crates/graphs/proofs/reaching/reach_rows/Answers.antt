use Rattle.graphs.proofs.InPlace.{closing-none, closing-past, closing-more, closing-all}
use Rattle.graphs.proofs.reaching.reach_rows.Goals as goal

pub loop-k-init : goal.loop-k-init
loop-k-init c = closing-none _ _ c.requires c.drop_selves.ensures

pub take_in-requires-clause-rest_is_zero : goal.take_in-requires-clause-rest_is_zero
take_in-requires-clause-rest_is_zero c = closing-past _ _ _ c.loop-k.invariant

pub loop-k-preserved : goal.loop-k-preserved
loop-k-preserved c = closing-more _ _ _ _ c.loop-k-test.true c.take_in.auto.reached c.take_in.ensures c.loop-k.invariant

pub returns : goal.returns
returns c = (c.loop-k.invariant.long, closing-all _ _ _ c.loop-k-test.false c.loop-k.invariant)
