-- Heading, costs and rows, each over its own part, make up the layout. Assumes nothing.
use Rattle.std.proofs.Common.{sym, ap, ◌∙◌, length, map-id, arith}
use Rattle.graphs.proofs.Tables.{checks-passed}
use Rattle.blockfile.specs.Layout.{spelled}
use Rattle.blockfile.proofs.Pieces.{put-layout}
use Rattle.blockfile.proofs.Tables.{write-none}
use Rattle.blockfile.proofs.write.Goals as goal

pub returns : goal.returns
returns c =
    let a = c.args in
    let passed = sym c.in_ok-check.ensures in
    record {
      refusal = sym (write-none a.rows.now (length a.costs.now) (length a.out.now) passed (omega arith));
      effect = (
        omega arith,
        put-layout a.out.now a.rows.now a.costs.now c.write_heading.new.part c.spell.new.part c.spell-2.new.part
            (checks-passed _ _ passed).even c.write_heading.ensures (c.spell.ensures ∙ ap (spelled 4) (map-id a.costs.now)) (c.spell-2.ensures ∙ ap (spelled 8) (map-id a.rows.now)),
      );
    }
