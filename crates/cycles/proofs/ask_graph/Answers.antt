use Rattle.cycles.proofs.Asking.{ask-first, ask-full, ask-next, ask-all}
use Rattle.cycles.proofs.ask_graph.Goals as goal

pub loop-part-init : goal.loop-part-init
loop-part-init c =
    ask-first _ _ _ _ _ c.into_iter-part-iterator.ensures.into_iter_gives c.components-part-items.ensures.same c.components-part-items.ensures.all

pub returns-in_default : goal.returns-in_default
returns-in_default c =
    ask-full _ _ _ c.args.graph.sound _ _ _ _ c.loop-part.invariant c.in-Some.part c.in-Some.ensures.steps
    _ c.loop-part.auto.nodes _ c.in_default.ensures

pub loop-part-preserved : goal.loop-part-preserved
loop-part-preserved c =
    ask-next _ _ _ c.args.graph.sound _ _ _ _ c.loop-part.invariant c.in-Some.part c.in-Some.ensures.steps
    _ c.loop-part.auto.nodes _ c.in-Ok.ensures _ c.max-need.ensures

pub returns : goal.returns
returns c = ask-all _ _ _ c.args.graph.sound _ _ _ _ c.loop-part.invariant c.in-None.ensures.steps
