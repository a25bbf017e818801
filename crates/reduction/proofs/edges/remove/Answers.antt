-- Both sides lose v.
use Rattle.std.proofs.Common.{◌∙◌, sym, subst₂}
use Rattle.reduction.specs.Work.{Beside}
use Rattle.reduction.proofs.Sides.{lead-self, remove-beside}
use Rattle.reduction.proofs.edges.remove.Goals as goal

pub returns-clause-rows : goal.returns-clause-rows
returns-clause-rows c = c.lead.ensures ∙ lead-self c.args.v.0 c.args.outs.now

pub returns-clause-beside : goal.returns-clause-beside
returns-clause-beside c =
    let v = c.args.v.0 in
    let first = c.lead.ensures ∙ lead-self v c.args.outs.now in
    let second = c.lead-2.ensures ∙ lead-self v c.args.ins.now in
    subst₂ Beside (sym first) (sym second) (remove-beside _ _ c.requires.beside v)
