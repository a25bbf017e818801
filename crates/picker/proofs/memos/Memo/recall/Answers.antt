-- The pair of words that it reads is right for the code that stands there.
use Rattle.picker.specs.Work.{code_in}
use Rattle.picker.proofs.Notes.{recalled, cost-masked}
use Rattle.picker.proofs.memos.Memo.recall.Goals as goal

pub returns : goal.returns
unfolding code_in
returns c = recalled c.args.self.now.words.now _ c.pair-at.result _ c.if-word-node.false (cost-masked _) c.of.ensures
