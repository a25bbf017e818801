-- What each arm makes is the move of its rule.
use Rattle.std.proofs.Common.{refl, subst}
use Rattle.masks.specs.Sets.{number}
use Rattle.reduction.specs.declared.rules.Rule.TheVariants.{OneIn}
use Rattle.reduction.specs.Rules.{State}
use Rattle.reduction.specs.Work.{block, edges, Usable}
use Rattle.reduction.proofs.Choices.{foldable-in, folds-in, folds-out}
use Rattle.reduction.proofs.rules.Rule.apply.Goals as goal
use Rattle.reduction.proofs.rules.Rule.apply.Goals.{in-Looped, in-Loose, in-OneIn, in-OneOut}

pub fold-requires-clause-foldable : goal.fold-requires-clause-foldable
fold-requires-clause-foldable c =
    let usable : Usable OneIn c.args.outs.now c.args.v.0 = subst (λ r. Usable r c.args.outs.now c.args.v.0) c.in-OneIn.is c.requires.usable in
    foldable-in (edges c.args.outs.now) _ c.requires.beside _ usable

pub returns-clause-performed : goal.returns-clause-performed
returns-clause-performed c =
    let s : State = block (number c.args.live) (number c.args.forced) c.args.outs.now in
    elim c.match-self.branch [
      | in-Looped w ↦
          rw (w.in-Looped.is, w.outs-is, w.done-is)
          (record { done = refl; live = c.cut-live.ensures; forced = w.put.ensures; rows = w.remove.ensures.rows })
      | in-Loose w ↦
          rw (w.in-Loose.is, w.outs-is, w.done-is)
          (record { done = refl; live = c.cut-live.ensures; forced = refl; rows = w.remove-in-Loose.ensures.rows })
      | in-OneIn w ↦
          rw (w.in-OneIn.is, w.outs-is, w.done-is) (folds-in s _ c.requires.beside _ _ _ _ _ _ c.cut-live.ensures refl w.fold.ensures)
      | in-OneOut w ↦
          rw (w.in-OneOut.is, w.outs-is, w.done-is) (folds-out s _ c.requires.beside _ _ _ _ _ _ c.cut-live.ensures refl w.fold-in-OneOut.ensures)
    ]
