use Rattle.std.proofs.Common.{◌∙◌, ℕ, ◌∷◌, [], ◌%◌, ◌≤◌, ◌≡◌, arith}
use Rattle.blockfile.specs.Layout.{bytes, heading}
use Rattle.blockfile.proofs.parts.write_heading.Goals as goal

six : (n : ℕ) → n ≤ 64 → 70 ∷ 86 ∷ 71 ∷ 1 ∷ 0 ∷ n ∷ [] ≡ heading n
unfolding bytes
six n h =
    let r : n % 256 ≡ n = omega arith in
    rw r

pub returns : goal.returns
returns c = c.copy_from_slice.ensures.after ∙ six c.args.n c.requires.1
