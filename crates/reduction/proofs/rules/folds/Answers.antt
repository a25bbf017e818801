-- The set has one member.
use Rattle.std.proofs.Common.{◌≡◌, ◌<◌, ℕ, ◌∙◌, sym, subst, length}
use Rattle.std.specs.Int.Count.{ones}
use Rattle.masks.specs.Sets.{number}
use Rattle.masks.proofs.Counts.{one-member}
use Rattle.graphs.specs.Graph.{cost_of}
use Rattle.reduction.proofs.Trials.{one_found, is_one}
use Rattle.reduction.proofs.rules.folds.Goals as goal

pub cheaper-requires : goal.cheaper-requires
cheaper-requires c =
    let single : ones (number c.args.side) ≡ 1 = sym c.count.ensures ∙ c.if-count-ne1.false in
    let found = one_found _ _ _ _ c.requires.fits single c.in-Some.ensures in
    (subst (λ (u : ℕ). u < length c.args.costs.now) (sym found) (one-member _ _ c.requires.fits single).0, c.requires.within)

pub returns-in-Some : goal.returns-in-Some
returns-in-Some c =
    let single : ones (number c.args.side) ≡ 1 = sym c.count.ensures ∙ c.if-count-ne1.false in
    is_one (cost_of c.args.costs.now) _ _ c.args.v.0 _ _ single (one_found _ _ _ _ c.requires.fits single c.in-Some.ensures) c.cheaper.ensures
