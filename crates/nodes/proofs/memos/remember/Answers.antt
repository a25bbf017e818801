use Rattle.std.proofs.Common.{ap, set, arith}
use Rattle.nodes.proofs.Packings.{key_fits, noted-is}
use Rattle.nodes.proofs.memos.remember.Goals as goal

pub home-i-requires : goal.home-i-requires
home-i-requires g c =
    (omega (arith, key_fits g.C.Connective.or c.args.a.0 c.args.b.0 c.requires.1 c.requires.2, c.key-k.ensures), c.requires.0)

pub returns : goal.returns
returns g c = (
  c.home-i.result,
  ap (set c.args.memo.now c.home-i.result)
      (noted-is g.C.Connective.or c.args.a.0 c.args.b.0 c.key-k.result c.key-k.ensures c.args.r.0 c.requires.1 c.requires.2 c.requires.3),
)
