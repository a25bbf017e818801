-- An emptied memo is right.
use Rattle.picker.proofs.Notes.{memo-none}
use Rattle.picker.proofs.best.lightest.Goals as goal

pub invariant_of-walk : goal.invariant_of-walk
invariant_of-walk c =
    record { few = c.requires.few; fit = λ v. (c.type_inv.costs v).fits; right = memo-none _ _ _ _ _ c.clear.ensures }
