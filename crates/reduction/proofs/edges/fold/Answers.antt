-- The one in-neighbour is found, one side gains, the other is led.
use Rattle.std.proofs.Common.{sym, subst₂, arith}
use Rattle.reduction.specs.Work.{Beside}
use Rattle.reduction.proofs.Sides.{fold-beside}
use Rattle.reduction.proofs.Choices.{ready, found-is}
use Rattle.reduction.proofs.edges.fold.Goals as goal

pub gain-requires : goal.gain-requires
gain-requires c =
    let r = ready _ _ c.requires.beside _ _ _ c.requires.foldable c.row.ensures _ c.lowest.ensures c.unwrap-u.ensures in
    record { within = (r.within, c.requires.within); few = c.requires.beside.few; other = r.other; only = r.only }

pub lead-requires : goal.lead-requires
lead-requires c =
    let r = ready _ _ c.requires.beside _ _ _ c.requires.foldable c.row.ensures _ c.lowest.ensures c.unwrap-u.ensures in
    record {
      within = (omega (arith, c.requires.beside.even, r.within), omega (arith, c.requires.beside.even, c.requires.within));
      few = omega (arith, c.requires.beside.even, c.requires.beside.few);
    }

pub returns : goal.returns
returns c =
    let r = ready _ _ c.requires.beside _ _ _ c.requires.foldable c.row.ensures _ c.lowest.ensures c.unwrap-u.ensures in
    record {
      into = found-is _ _ c.requires.beside _ _ _ c.requires.foldable c.row.ensures _ c.lowest.ensures c.unwrap-u.ensures;
      gains = c.gain.ensures;
      leads = c.lead.ensures;
      beside = subst₂ Beside (sym c.gain.ensures) (sym c.lead.ensures) (fold-beside _ _ c.requires.beside _ c.args.v.0 r.within);
    }
