use Rattle.std.proofs.Common.{◌∙◌, ap, bit_or, arith}
use Rattle.nodes.proofs.Packings.{pair_is, key-marked}
use Rattle.nodes.proofs.memos.key.Goals as goal

pub returns : goal.returns
returns g c =
    let k = c.requires in
    let least = c.min.ensures in
    let most = c.max.ensures in
    ap (λ p. bit_or p c.mark.result) (pair_is c.args.a.0 c.args.b.0 _ _ (omega arith) (omega arith) least most)
    ∙ key-marked g.C.Connective.or c.args.a.0 c.args.b.0 _ k.0 k.1 c.mark.ensures
