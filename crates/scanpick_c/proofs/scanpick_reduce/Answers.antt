use Rattle.std.proofs.Common.{sym}
use Rattle.scanpick_c.proofs.Steps.{answer-small}
use Rattle.scanpick_c.proofs.scanpick_reduce.Goals as goal

pub step_words-requires : goal.step_words-requires
step_words-requires c = answer-small c.args.rows.now c.args.costs.now c.args.limit c.in-Ok.reduced (sym c.in-Ok.ensures.0) c.in-Ok.ensures.1
