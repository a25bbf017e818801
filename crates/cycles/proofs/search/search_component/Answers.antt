-- The visit of the lowest member, with nothing visited before.
use Rattle.graphs.proofs.Whole.{part-component}
use Rattle.cycles.proofs.Starting.{start-may, searched}
use Rattle.cycles.proofs.search.search_component.Goals as goal

pub visit-requires : goal.visit-requires
visit-requires c =
    start-may _ (part-component c.args.part) _ _ c.args.part.led c.none-3.ensures
    (record { over = c.none.ensures; back = c.none-2.ensures; none = c.new.ensures })

pub returns : goal.returns
returns c =
    searched _ (part-component c.args.part) _ _ c.args.part.led c.none-3.ensures
    (record { over = c.none.ensures; back = c.none-2.ensures; none = c.new.ensures }) _ c.visit.ensures
