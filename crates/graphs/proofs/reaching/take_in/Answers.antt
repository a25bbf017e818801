use Rattle.std.proofs.Common.{◌∙◌, sym, subst, T}
use Rattle.std.proofs.Common.{eqb→eq}
use Rattle.graphs.proofs.InPlace.{taken-all, taken-idle}
use Rattle.graphs.proofs.reaching.take_in.Goals as goal

pub returns-then-is_empty : goal.returns-then-is_empty
returns-then-is_empty c =
    let a = c.args in
    taken-idle a.k.0 a.reached.now (sym c.row-taken.ensures ∙ eqb→eq _ 0 (subst T (sym c.if-is_empty.true ∙ c.is_empty.ensures) tt))

pub returns : goal.returns
returns c = taken-all _ _ _ _ _ c.requires.rest_is_zero c.loop-u-test.false c.loop-u.invariant.1
