use Rattle.graphs.proofs.Gathering.{inner-bits}
use Rattle.graphs.proofs.component.inner_row.Goals as goal

pub returns : goal.returns
returns c = inner-bits _ _ _ c.requires.2 _ _ _ c.row.ensures c.meet.ensures c.cut.ensures
