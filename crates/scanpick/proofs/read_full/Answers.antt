use Rattle.std.proofs.Common.{◌≡◌, ℕ, ◌+◌, ◌≤◌, List, ◌++◌, sym, ap, ap₂, ◌∙◌, subst, arith, length, take, drop_at, length-take-le}
use Rattle.std.proofs.KnownBytes.{Consumes-trans}
use Rattle.std.proofs.Math.Seq.{take_at, take-add, take-append-le}
use Rattle.std.specs.Io.KnownBytes.{Consumes}
use borrow.Rule.Slice.PartMut.{put_mid, post_of}
use Rattle.scanpick.proofs.read_full.Goals as goal

-- m bytes more, read into what follows the first a
take-read : (a k m : ℕ) (xs ys : List ℕ) → a ≤ length xs → m ≤ length ys → take (a + m) (put_mid a k xs ys) ≡ take a xs ++ take m ys
take-read a k m xs ys h fits =
    let t = length-take-le a xs h in
    let after = ys ++ post_of a k xs in
    take-add a m (take a xs ++ after)
    ∙ ap₂ ◌++◌ (take_at (take a xs) after a t) (ap (take m) (drop_at (take a xs) after a t) ∙ take-append-le m ys (post_of a k xs) fits)

pub loop-length-preserved : goal.loop-length-preserved
loop-length-preserved g c =
    let i = c.loop-length.invariant in
    let e = c.in_ok-more.ensures in
    let joined = take-read _ _ _ c.loop-length.file c.read.new.buf i.0 e.bound.0 in
    (omega arith, subst (Consumes _ _) (sym joined) (Consumes-trans _ _ _ _ _ i.1 e.bytes.0))
