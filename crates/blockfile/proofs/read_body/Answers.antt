-- The costs and the rows of the file stand in the first places of the two buffers, and no line of the table was given.
use Rattle.std.proofs.Common.{false, ◌||◌, ltb, ◌≡◌, ◌+◌, ◌-◌, ◌*◌, ◌≤◌, ◌∙◌, ◌++◌, ◌∷◌, [], ℕ, List, length, map-id, take, drop, refl, sym, ap, arith}
use Rattle.std.proofs.Math.Option.{none}
use borrow.Author.Tests.{le-ltb}
use lib.Seq.{length-take-le}
use Rattle.graphs.specs.Refusals.{first, checks, too_many, unequal, outside}
use Rattle.graphs.proofs.Tables.{first_rest}
use Rattle.blockfile.specs.Layout.{numbers, count, file_rows}
use Rattle.blockfile.proofs.Tables.{read_none, found_rows, found-costs}
use Rattle.blockfile.proofs.read_body.Goals as goal

rows-in : (file rows : List ℕ) (n : ℕ) → rows ≡ file_rows file → none ≡ first (checks rows n) → first (outside (file_rows file) ∷ []) ≡ none
rows-in file rows n e h =
    let all = file_rows file in
    first_rest (unequal n (length all)) (outside all ∷ [])
    (first_rest (too_many (length all)) (unequal n (length all) ∷ outside all ∷ []) (ap (λ (l : List ℕ). first (checks l n)) (sym e) ∙ sym h))

enough : (n k costs rows : ℕ) → n ≡ k → n ≤ costs → n ≤ rows → (ltb costs k || ltb rows k) ≡ false
enough n k costs rows e h l = rw (← e, le-ltb costs n h, le-ltb rows n l) refl

pub returns : goal.returns
returns c =
    let file = c.args.file.now in
    let n = c.args.n in
    let e = c.requires.0 in
    let rows : take n c.rows_of-found.result ≡ file_rows file = found_rows file _ n e c.rows_of-found.ensures in
    let few : length (take n c.args.costs.now) ≡ n = length-take-le n c.args.costs.now c.if-costs-n.false in
    let costs : c.fill.new.found ≡ numbers 4 (length (take n c.args.costs.now)) (take (length file - 6) (drop 6 file)) =
    sym (map-id c.fill.new.found) ∙ c.fill.ensures in
    let long : length file ≡ 6 + 12 * count file = c.if-file-start.false ∙ omega (arith, e) in
    record {
      refusal = sym (read_none file _ _ c.requires.2 long (rows-in file _ n rows c.in_ok-check.ensures)
          (enough _ _ _ _ e c.if-costs-n.false c.if-rows-n.false));
      effect = (
        e,
        ap (λ (l : List ℕ). l ++ drop n c.args.costs.now)
            (costs ∙ ap (λ (k : ℕ). numbers 4 k (take (length file - 6) (drop 6 file))) few ∙ found-costs file n e),
        ap (λ (l : List ℕ). l ++ drop n c.args.rows.now) (c.copy_from_slice.ensures.after ∙ rows),
      );
    }
