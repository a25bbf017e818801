use Rattle.std.proofs.Common.{◌∙◌, refl, sym, not, nat_eq, ℕ, ◌≡◌, false}
use Rattle.std.proofs.lemmas.Bool.{false≢true}
use borrow.Author.Tests.{eqb-true, not-false}
use Rattle.cycles.proofs.Settles.{take_none, take_step, take_done}
use Rattle.cycles.proofs.making.settle.Goals as goal
use Rattle.cycles.proofs.making.settle.Goals.{then-ne, else-ne}

pub loop-b-init : goal.loop-b-init
loop-b-init c = take_none _ _ _ _ c.told-table (c.into_iter-b-iterator.ensures.into_iter_gives ∙ c.members-b-items.ensures)

same_codes : (x y : ℕ) → not (nat_eq x y) ≡ false → x ≡ y
same_codes x y e = eqb-true x y (not-false _ e)

pub loop-b-preserved : goal.loop-b-preserved
loop-b-preserved c =
    elim c.if-ne.branch [
      | then-ne w ↦ take_step _ _ _ _ _ _ c.loop-b.invariant _ _ c.in-Some.ensures.steps.1 _ _ _ refl refl
          (λ e. absurd (false≢true (sym w.same-is ∙ e)))
      | else-ne w ↦ take_step _ _ _ _ _ _ c.loop-b.invariant _ _ c.in-Some.ensures.steps.1 _ _ _ refl refl
          (λ e. (sym w.same-is ∙ e, same_codes _ _ (sym c.ne.ensures ∙ w.if-ne.false)))
    ]

pub returns : goal.returns
returns c = take_done _ _ _ _ _ _ c.in-None.ensures.steps.1.0 c.loop-b.invariant
