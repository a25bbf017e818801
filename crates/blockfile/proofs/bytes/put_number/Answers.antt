use Rattle.std.proofs.Common.{ap, ◌≡◌, ◌∙◌, ◌++◌, ◌-◌, ◌≤◌, take, length, replicate, arith}
use Rattle.std.proofs.Math.Seq.{paste}
use Rattle.blockfile.specs.Layout.{bytes}
use Rattle.blockfile.proofs.LowFirst.{take-bytes, to_bytes, low-zeros, put-zeros}
use Rattle.blockfile.proofs.Numbers.{bytes-length}
use Rattle.blockfile.proofs.bytes.put_number.Goals as goal

pub returns : goal.returns
returns c =
    let w = c.args.width in
    let n = c.args.number in
    let m = c.min-low.result in
    let xs = c.copy_from_slice.new.self in
    let small : (m ≤ 8) × (m ≤ w) = (omega (arith, c.min-low.ensures), omega (arith, c.min-low.ensures)) in
    let low : xs ≡ bytes m n = c.copy_from_slice.ensures.after ∙ ap (take m) (c.to_le_bytes.ensures ∙ to_bytes n) ∙ take-bytes m 8 n small.0 in
    let all : xs ++ replicate (w - m) 0 ≡ bytes w n = ap (λ ys. ys ++ replicate (w - m) 0) low ∙ low-zeros w m n c.min-low.ensures c.ranges.number.fits in
    put-zeros _ _ _ _ _ _ c.requires small.1 (ap length low ∙ bytes-length m n) (c.fill.ensures.after (λ y s. s))
    ∙ ap (λ bs. paste c.args.out.now c.args.at bs w) all
