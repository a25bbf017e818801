-- The layout of a block and the reader's table: the file of a block that fits is accepted and has that block, and a file that is accepted is the layout
-- of its block, byte for byte. Assumes nothing.
use mathlib.Core.Path.{◌≡◌, refl, sym, ap, ap₂, ◌∙◌}
use mathlib.Core.Bool.{Bool, true, false, ◌&&◌, ◌||◌, true≢false}
use mathlib.Core.List.{List, [], ◌∷◌, ◌++◌, append-nil, append_assoc}
use mathlib.Core.Option.{none}
use Prim.Native.Nat.{ℕ, ◌+◌, ◌*◌, ◌^◌, ◌≤◌, ◌<◌}
use native.Mathlib.Nat.{lt_of_lt_of_le, pow-le-pow_right}
use native.Mathlib.Omega.{arith}
use borrow.Author.Tests.{le-ltb, ltb-false, eqb-true, not-false}
use lib.Dec.{ltb, eqb, lit<}
use lib.ListN.{length, get_or, take, drop, length-append, length-drop}
use lib.Seq.{drop_at, take-suc, take-add, take_all}
use Rattle.graphs.specs.Refusals.{first, too_many, outside}
use Rattle.graphs.proofs.Loops.{RowsFit, rows-lt}
use Rattle.graphs.proofs.Tables.{first_off, first_rest, outside-off, outside-none}
use Rattle.blockfile.specs.Layout.{bytes, value, spelled, numbers, heading, layout, version, count, file_costs, file_rows}
use Rattle.blockfile.specs.Promise.{foreign, other_version, other_length, too_short, header_lines, body_lines, read_lines}
use Rattle.blockfile.proofs.Numbers.{Octets, octets-drop, heading-length, spelled-length, numbers-length}
use Rattle.blockfile.proofs.Numbers.{numbers-spelled, spelled-numbers, numbers-lt, bytes-part}
use Rattle.blockfile.proofs.Tables.{lacks, read_none}

-- a block that fits a file: "n from 0 to 64", "each flip-flop has a cost from 0 to 4,294,967,295", and no row has a bit at n or above
pub record Valid (rows costs : List ℕ) : Type 0 where
  pub even : length costs ≡ length rows
  pub few : length rows ≤ 64
  pub fit : RowsFit rows
  pub small : (v : ℕ) → get_or costs v 0 < 2 ^ 32

-- ---- the file of a block

module _ (rows costs : List ℕ) (b : Valid rows costs) where
  start-length : length (heading (length rows) ++ spelled 4 costs) ≡ 6 + 4 * length rows
  start-length =
      length-append (heading (length rows)) (spelled 4 costs) ∙ omega (arith, heading-length (length rows), spelled-length 4 costs, b.even)

  pub layout-length : length (layout costs rows) ≡ 6 + 12 * length rows
  layout-length = length-append (heading (length rows) ++ spelled 4 costs) (spelled 8 rows) ∙ omega (arith, start-length, spelled-length 8 rows)

  pub layout-count : count (layout costs rows) ≡ length rows
  unfolding bytes value
  layout-count = omega (arith, b.few)

  pub layout-version : version (layout costs rows) ≡ 1
  unfolding bytes value
  layout-version = refl

  -- a row fits in eight bytes
  row_lt : (v : ℕ) → get_or rows v 0 < 256 ^ 8
  row_lt v = lt_of_lt_of_le (rows-lt rows b.fit v) (pow-le-pow_right (lit< tt) {i = length rows} {j = 64} b.few)

  pub layout-costs : file_costs (layout costs rows) ≡ costs
  layout-costs =
      ap₂ (numbers 4) (layout-count ∙ sym b.even) after ∙ numbers-spelled 4 costs (spelled 8 rows) b.small
    where
      after : drop 6 (layout costs rows) ≡ spelled 4 costs ++ spelled 8 rows
      after = ap (drop 6) (append_assoc (heading (length rows)) (spelled 4 costs) (spelled 8 rows))
          ∙ drop_at (heading (length rows)) (spelled 4 costs ++ spelled 8 rows) 6 (heading-length (length rows))

  pub layout-rows : file_rows (layout costs rows) ≡ rows
  layout-rows =
      ap (λ (n : ℕ). numbers 8 n (drop (6 + 4 * n) (layout costs rows))) layout-count
      ∙ ap (numbers 8 (length rows)) (drop_at (heading (length rows) ++ spelled 4 costs) (spelled 8 rows) (6 + 4 * length rows) start-length
      ∙ sym (append-nil (spelled 8 rows)))
      ∙ numbers-spelled 8 rows [] row_lt

  layout-header : first (header_lines (layout costs rows)) ≡ none
  layout-header = rw (le-ltb (length (layout costs rows)) 6 (omega (arith, layout-length)), layout-version, layout-count, le-ltb _ _ b.few)

  pub layout-accepted : (c r : ℕ) → length rows ≤ c → length rows ≤ r → first (read_lines (layout costs rows) c r) ≡ none
  layout-accepted c r hc hr =
      read_none (layout costs rows) c r layout-header (layout-length ∙ ap (λ (n : ℕ). 6 + 12 * n) (sym layout-count))
      (ap (λ (l : List ℕ). first (outside l ∷ [])) layout-rows ∙ outside-none rows b.fit)
      (rw (layout-count, le-ltb _ _ hc, le-ltb _ _ hr))

-- ---- a file that is accepted

-- what its bytes are
pub record Accepted (file : List ℕ) (c r : ℕ) : Type 0 where
  pub long : 6 ≤ length file
  pub mark : (get_or file 0 0 ≡ 70) × (get_or file 1 0 ≡ 86) × (get_or file 2 0 ≡ 71)
  pub one : version file ≡ 1
  pub few : count file ≤ 64
  pub exact : length file ≡ 6 + 12 * count file
  pub fit : RowsFit (file_rows file)
  pub room : (count file ≤ c) × (count file ≤ r)

-- of two tests neither holds
or-false : (x y : Bool) → x || y ≡ false → (x ≡ false) × (y ≡ false)
or-false true y e = absurd (true≢false e)
or-false false y e = (refl, e)

-- all of three tests hold
and-true : (x y z : Bool) → x && y && z ≡ true → (x ≡ true) × (y ≡ true) × (z ≡ true)
and-true true true z e = (refl, refl, e)
and-true true false z e = absurd (true≢false (sym e))
and-true false true z e = absurd (true≢false (sym e))
and-true false false z e = absurd (true≢false (sym e))

pub accepted : (file : List ℕ) (c r : ℕ) → first (read_lines file c r) ≡ none → Accepted file c r
accepted file c r e =
    let ls₂ = other_version file ∷ too_many (count file) ∷ body_lines file c r in
    let e₂ = first_rest (foreign file) ls₂ e in
    let ls₃ = too_many (count file) ∷ body_lines file c r in
    let e₃ = first_rest (other_version file) ls₃ e₂ in
    let ls₄ = body_lines file c r in
    let e₄ = first_rest (too_many (count file)) ls₄ e₃ in
    let ls₅ = outside (file_rows file) ∷ too_short (lacks file c r) ∷ [] in
    let e₅ = first_rest (other_length file) ls₅ e₄ in
    let e₆ = first_rest (outside (file_rows file)) (too_short (lacks file c r) ∷ []) e₅ in
    let own = or-false (ltb (length file) 6) _ (first_off (foreign file) ls₂ e) in
    let marks = and-true (eqb (get_or file 0 0) 70) (eqb (get_or file 1 0) 86) (eqb (get_or file 2 0) 71) (not-false _ own.1) in
    let room = or-false (ltb c (count file)) (ltb r (count file)) (first_off (too_short (lacks file c r)) [] e₆) in
    record {
      long = ltb-false (length file) 6 own.0;
      mark = (eqb-true _ _ marks.0, eqb-true _ _ marks.1, eqb-true _ _ marks.2);
      one = eqb-true _ _ (not-false _ (first_off (other_version file) ls₃ e₂));
      few = ltb-false 64 (count file) (first_off (too_many (count file)) ls₄ e₃);
      exact = eqb-true _ _ (not-false _ (first_off (other_length file) ls₅ e₄));
      fit = outside-off (file_rows file) (first_off (outside (file_rows file)) (too_short (lacks file c r) ∷ []) e₅);
      room = (ltb-false c (count file) room.0, ltb-false r (count file) room.1);
    }

module _ (file : List ℕ) (c r : ℕ) (o : Octets file) (e : first (read_lines file c r) ≡ none) where
  rows-length : length (file_rows file) ≡ count file
  rows-length = numbers-length 8 (count file) (drop (6 + 4 * count file) file)

  costs-length : length (file_costs file) ≡ count file
  costs-length = numbers-length 4 (count file) (drop 6 file)

  pub accepted-valid : Valid (file_rows file) (file_costs file)
  accepted-valid =
      record {
        even = costs-length ∙ sym rows-length;
        few = omega (arith, rows-length, (accepted file c r e).few);
        fit = (accepted file c r e).fit;
        small = numbers-lt 4 (count file) (drop 6 file) (octets-drop 6 file o);
      }

  -- its first six bytes are the heading
  accepted-mark : 70 ∷ 86 ∷ 71 ∷ [] ≡ take 3 file
  accepted-mark =
      let a = accepted file c r e in
      rw (
        take-suc file 2 0 (omega (arith, a.long)),
        take-suc file 1 0 (omega (arith, a.long)),
        take-suc file 0 0 (omega (arith, a.long)),
        a.mark.0,
        a.mark.1,
        a.mark.2,
      )

  accepted-version : bytes 2 1 ≡ take 2 (drop 3 file)
  accepted-version = ap (bytes 2) (sym (accepted file c r e).one)
      ∙ bytes-part 2 (drop 3 file) (octets-drop 3 file o) (omega (arith, (accepted file c r e).long, length-drop 3 file))

  accepted-count : bytes 1 (count file) ≡ take 1 (drop 5 file)
  accepted-count = bytes-part 1 (drop 5 file) (octets-drop 5 file o) (omega (arith, (accepted file c r e).long, length-drop 5 file))

  accepted-heading : heading (count file) ≡ take 6 file
  accepted-heading =
      ap₂ ◌++◌ (ap₂ ◌++◌ accepted-mark accepted-version ∙ sym (take-add 3 2 file)) accepted-count ∙ sym (take-add 5 1 file)

  pub accepted-layout : layout (file_costs file) (file_rows file) ≡ file
  accepted-layout =
      ap₂ ◌++◌ (ap₂ ◌++◌ (ap heading rows-length ∙ accepted-heading) costs ∙ sym (take-add 6 (4 * n) file)) rows
      ∙ sym (take-add (6 + 4 * n) (8 * n) file)
      ∙ take_all (6 + 4 * n + 8 * n) file (omega (arith, (accepted file c r e).exact))
    where
      n : ℕ
      n = count file

      costs : spelled 4 (file_costs file) ≡ take (4 * n) (drop 6 file)
      costs = spelled-numbers 4 n (drop 6 file) (octets-drop 6 file o) (omega (arith, (accepted file c r e).exact, length-drop 6 file))

      rows : spelled 8 (file_rows file) ≡ take (8 * n) (drop (6 + 4 * n) file)
      rows =
          spelled-numbers 8 n (drop (6 + 4 * n) file) (octets-drop (6 + 4 * n) file o)
          (omega (arith, (accepted file c r e).exact, length-drop (6 + 4 * n) file))
