-- What is answered is the smaller one, and so the lighter one.
use Rattle.std.proofs.Common.{rules}
use Rattle.picker.proofs.Choosing.{smaller_lighter}
use Rattle.picker.proofs.best.lighter.Goals as goal

pub returns-in-Some-Some : goal.returns-in-Some-Some
returns-in-Some-Some c = smaller_lighter c.in-Some-Some.is-0 c.in-Some-Some.is-1 (search rules)
