-- A member whose row holds v is gathered, another is passed over.
use Rattle.std.proofs.Common.{refl, ◌∙◌, sym}
use Rattle.graphs.proofs.Gathering.{gather_none, gather-yes, gather-no, gather-all}
use Rattle.graphs.proofs.component.holders.Goals as goal

pub loop-u-init : goal.loop-u-init
loop-u-init c = gather_none _ _ _ _ _ (c.into_iter-u-iterator.ensures.into_iter_gives ∙ c.members-u-items.ensures) c.none-found.ensures

pub loop-u-preserved-then-has : goal.loop-u-preserved-then-has
loop-u-preserved-then-has c =
    gather-yes _ _ _ _ _ _ _ _ _ c.row.ensures c.in-Some.ensures.steps.1 c.loop-u.invariant (sym c.has.ensures ∙ c.if-has.true) c.put-found.ensures

pub loop-u-preserved : goal.loop-u-preserved
loop-u-preserved c =
    gather-no _ _ _ _ _ _ _ _ _ c.row.ensures c.in-Some.ensures.steps.1 c.loop-u.invariant (sym c.has.ensures ∙ c.if-has.false) refl

pub returns : goal.returns
returns c = gather-all _ _ _ _ _ c.in-None.ensures.steps.1.0 c.loop-u.invariant
