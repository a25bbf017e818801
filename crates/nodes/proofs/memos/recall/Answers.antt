use Rattle.std.proofs.Common.{get_or, arith}
use Rattle.nodes.proofs.Packings.{key_fits, noted-from}
use lib.Bits.{mask_lt}
use Rattle.nodes.proofs.memos.recall.Goals as goal

pub home-i-requires : goal.home-i-requires
home-i-requires g c =
    (omega (arith, key_fits g.C.Connective.or c.args.a.0 c.args.b.0 c.requires.1 c.requires.2, c.key-k.ensures), c.requires.0)

pub returns-then-w-k : goal.returns-then-w-k
returns-then-w-k g c =
    let i = c.home-i.result in
    (i, noted-from g.C.Connective.or c.args.a.0 c.args.b.0 c.key-k.result c.key-k.ensures _ c.if-w-k.true, mask_lt (get_or c.args.memo.now i 0) 17)
