use Rattle.graphs.proofs.Coming.{all-coming}
use Rattle.graphs.proofs.block.Graph.components.Goals as goal

pub returns-clause-all : goal.returns-clause-all
returns-clause-all c = all-coming _ _ c.args.self.sound c.reach_rows.ensures.1
