-- The two rows fit, and hold the neighbours of either side.
use Rattle.std.proofs.Common.{◌≡◌, ◌<◌, ◌^◌, ◌∙◌, sym, ap, ap₂, true, false, length, get_or}
use Rattle.std.specs.Prelude.{eqb}
use Rattle.masks.specs.Sets.{number}
use Rattle.graphs.specs.Graph.{cost_of}
use Rattle.reduction.specs.declared.rules.Rule.TheVariants.{Loose, OneIn}
use Rattle.reduction.specs.Work.{one_cheaper}
use Rattle.reduction.proofs.Sides.{outs-fit, ins-fit, asks-applies}
use Rattle.reduction.proofs.state.State.suits.Goals as goal

pub folds-requires-clause-fits : goal.folds-requires-clause-fits
folds-requires-clause-fits c =
    let s = c.args.self.now in
    let fits : number c.row-in-OneIn.result < 2 ^ length s.outs.now = rw c.row-in-OneIn.ensures (ins-fit _ _ s.beside _) in
    rw s.even fits

pub folds-requires-in-OneOut-clause-fits : goal.folds-requires-in-OneOut-clause-fits
folds-requires-in-OneOut-clause-fits c =
    let s = c.args.self.now in
    let fits : number c.row-in-OneOut.result < 2 ^ length s.outs.now = rw c.row-in-OneOut.ensures (outs-fit _ _ s.beside _) in
    rw s.even fits

pub returns-then-is_empty : goal.returns-then-is_empty
returns-then-is_empty c =
    let s = c.args.self.now in
    let none_in : eqb (get_or s.ins.now c.args.v.0 0) 0 ≡ true =
    sym (c.is_empty.ensures ∙ ap (λ m. eqb m 0) c.row-in-Loose.ensures) ∙ c.if-is_empty.true in
    asks-applies _ _ s.beside c.args.rule Loose _ _ (number s.forced) _ _ c.in-Loose.is (sym c.has.ensures ∙ c.if-not-has.false) (rw none_in c.if-is_empty.true)

pub returns-else-is_empty : goal.returns-else-is_empty
returns-else-is_empty c =
    let s = c.args.self.now in
    let some_in : eqb (get_or s.ins.now c.args.v.0 0) 0 ≡ false =
    sym (c.is_empty.ensures ∙ ap (λ m. eqb m 0) c.row-in-Loose.ensures) ∙ c.if-is_empty.false in
    asks-applies _ _ s.beside c.args.rule Loose _ _ (number s.forced) _ _ c.in-Loose.is (sym c.has.ensures ∙ c.if-not-has.false)
    (rw some_in (c.is_empty-else-is_empty.ensures ∙ ap (λ m. eqb m 0) c.row-else-is_empty.ensures))

pub returns-in-OneIn : goal.returns-in-OneIn
returns-in-OneIn c =
    let s = c.args.self.now in
    asks-applies _ _ s.beside c.args.rule OneIn _ _ (number s.forced) _ _ c.in-OneIn.is (sym c.has.ensures ∙ c.if-not-has.false)
    (c.folds.ensures ∙ ap₂ (λ n m. one_cheaper (cost_of s.costs.now) n m c.args.v.0) s.even c.row-in-OneIn.ensures)
