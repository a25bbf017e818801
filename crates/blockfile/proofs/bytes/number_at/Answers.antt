use Rattle.std.proofs.Common.{◌≡◌, ◌+◌, ◌-◌, ap, ◌∙◌, ℕ, List, length, take, drop, arith}
use lib.ListN.{length-drop}
use lib.Seq.{length-take-le}
use Rattle.blockfile.specs.Layout.{value}
use Rattle.blockfile.proofs.LowFirst.{number-of}
use Rattle.blockfile.proofs.bytes.number_at.Goals as goal

pub returns : goal.returns
returns c =
    let at = c.args.at in
    let w = c.args.width in
    let rest : List ℕ = drop at c.args.file.now in
    let k : at + w - at ≡ w = omega arith in
    let l : length (take (at + w - at) rest) ≡ at + w - at = length-take-le (at + w - at) rest (omega (arith, length-drop at c.args.file.now)) in
    c.from_le_bytes.ensures ∙ number-of (take (at + w - at) rest) c.padded.result (omega arith) c.padded.ensures
    ∙ ap (λ (j : ℕ). value (take j rest)) k
