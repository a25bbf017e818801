-- It writes one pair of words.
use Rattle.std.proofs.Common.{arith, ap₂, set, ◌+◌, ◌*◌}
use Rattle.picker.proofs.Notes.{remembered, note-is}
use Rattle.picker.proofs.memos.Memo.remember.Goals as goal

pub returns-clause-kept : goal.returns-clause-kept
returns-clause-kept c =
    let ms = c.args.self.now.words.now in
    let i = c.pair-at.result in
    remembered ms _ _ i c.args.best (omega (arith, c.pair-at.ensures)) c.requires.small
    (ap₂ (λ x y. set (set ms (2 * i) x) (2 * i + 1) y) (note-is c.args.node.0 c.args.best.cost c.requires.code c.requires.small) c.word.ensures)
