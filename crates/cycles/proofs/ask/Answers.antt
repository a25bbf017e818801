-- The checks, the kept mask, the answer in the part of the room that counts, and both rooms emptied.
use Rattle.std.proofs.Common.{◌∙◌, not, ap}
use Rattle.cycles.proofs.Asking.{kept_test, ask-wide, ask-answered}
use Rattle.cycles.proofs.ask.Goals as goal

pub returns-then-not-is_empty : goal.returns-then-not-is_empty
returns-then-not-is_empty c =
    ask-wide _ _ _ _ _ c.in_ok-graph.ensures.refused c.in_ok-graph.ensures.made _ c.len.ensures
    (kept_test _ _ _ _ _ _ c.of-keep.ensures c.below.ensures c.without.ensures c.is_empty.ensures ∙ ap not c.if-not-is_empty.true)

pub returns : goal.returns
returns c =
    let r = c.ask_memo-answer in
    ask-answered _ _ _ _ _ c.in_ok-graph.ensures.refused c.in_ok-graph.ensures.made _ c.len.ensures
    (kept_test _ _ _ _ _ _ c.of-keep.ensures c.below.ensures c.without.ensures c.is_empty.ensures ∙ ap not c.if-not-is_empty.false)
    _ c.of-keep.ensures r.result _ r.new.nodes _ r.new.memo _ c.capacity-words.ensures r.auto.nodes r.ensures r.auto.memo
    c.empty.ensures c.clear.ensures
