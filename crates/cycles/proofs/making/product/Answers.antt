use Rattle.cycles.proofs.Sums.{product-full, product-left, product-right, product-done}
use Rattle.cycles.proofs.making.product.Goals as goal

pub returns-in_err-all-clause-made : goal.returns-in_err-all-clause-made
returns-in_err-all-clause-made c = product-full _ _ _ _ _ _ c.in_err-all.ensures.made _ c.from_residual.ensures.0

pub and-requires-clause-left : goal.and-requires-clause-left
and-requires-clause-left c = product-left _ _ _ _ _ _ c.in_ok-all.ensures.made c.requires.table c.requires.variable

pub and-requires-clause-right : goal.and-requires-clause-right
and-requires-clause-right c = product-right _ _ _ c.args.variable.0 _ _ c.in_ok-all.ensures.made c.requires.table

pub returns-clause-made : goal.returns-clause-made
returns-clause-made c = product-done _ _ _ _ _ _ c.in_ok-all.ensures.made _ _ _ c.and.ensures.joined
