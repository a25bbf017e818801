-- The reader's and the writer's tables: which line is the first that is given, from the tests of the code, and the promises that follow. Assumes nothing.
use Rattle.std.specs.Prelude.{Ok, Err}
use mathlib.Core.Path.{◌≡◌, refl, sym, ap, ◌∙◌}
use mathlib.Core.Bool.{Bool, true, false, ◌||◌}
use mathlib.Core.List.{List, [], ◌∷◌, ◌++◌}
use mathlib.Core.Option.{none, some}
use Prim.Native.Nat.{ℕ, ◌+◌, ◌-◌, ◌*◌, ◌≤◌, ◌<◌}
use native.Mathlib.Omega.{arith}
use borrow.Author.Tests.{lt-ltb, le-ltb, eq-eqb, ne_eqb, ltb-false}
use lib.Dec.{ltb}
use lib.ListN.{length, take, drop, replicate, length-drop}
use lib.Seq.{take_at, take_all}
use Rattle.graphs.specs.Refusals.{first, too_many, outside, checks}
use Rattle.graphs.specs.declared.refusal.Refusal.{Refusal}
use Rattle.graphs.specs.declared.refusal.Refusal.TheVariants.{OtherLength, OutputTooShort}
use Rattle.graphs.proofs.Tables.{first_off, first_rest, first-before, first-none, first_some}
use Rattle.blockfile.specs.Layout.{numbers, count, file_costs, file_rows}
use Rattle.blockfile.specs.Promise.{foreign, other_version, header_lines, body_lines, read_lines, write_lines, too_short, ReadPromise, WritePromise}
use Rattle.blockfile.proofs.Numbers.{numbers-length}

-- a refusal that is the first line given, with nothing written
pub read-refused : (file costs rows : List ℕ) (r : Refusal) → first (read_lines file (length costs) (length rows)) ≡ some r
    → ReadPromise file costs rows (Err r) costs rows
read-refused file costs rows r e = record { refusal = sym e; effect = (refl, refl) }

pub write-refused : (rows costs out : List ℕ) (r : Refusal) → first (write_lines rows (length costs) (length out)) ≡ some r
    → WritePromise rows costs out (Err r) out
write-refused rows costs out r e = record { refusal = sym e; effect = refl }

-- the number 8
abbrev pub short : Refusal
short = OutputTooShort

first_short : (x : Bool) → x ≡ true → first (too_short x ∷ []) ≡ some short
first_short x e = rw e

first-long : (x : Bool) → x ≡ false → first (too_short x ∷ []) ≡ none
first-long x e = rw e

-- a header that is accepted has a count of at most 64
pub header-small : (file : List ℕ) → first (header_lines file) ≡ none → count file ≤ 64
header-small file e =
    let e₂ = first_rest (foreign file) (other_version file ∷ too_many (count file) ∷ []) e in
    let e₃ = first_rest (other_version file) (too_many (count file) ∷ []) e₂ in
    ltb-false 64 (count file) (first_off (too_many (count file)) [] e₃)

-- a block that was read has at most 64 flip-flops
pub block-small : (file costs rows : List ℕ) (n : ℕ) (costs' rows' : List ℕ) → ReadPromise file costs rows (Ok n) costs' rows' → n ≤ 64
block-small file costs rows n costs' rows' p =
    let lines = body_lines file (length costs) (length rows) in
    omega (arith, p.effect.0, header-small file (first-before (header_lines file) lines (sym p.refusal)))

-- ---- the reader, past a header that is accepted

-- an output is too short for the file's block
abbrev pub lacks : List ℕ → ℕ → ℕ → Bool
lacks file costs rows = ltb costs (count file) || ltb rows (count file)

module _ (file : List ℕ) (costs rows : ℕ) (header : first (header_lines file) ≡ none) where
  pub read-7 : (length file ≡ 6 + 12 * count file → ⊥) → first (read_lines file costs rows) ≡ some (OtherLength)
  read-7 d = first-none (header_lines file) (body_lines file costs rows) header ∙ rw (ne_eqb _ _ d)

  module _ (long : length file ≡ 6 + 12 * count file) where
    past-length : first (read_lines file costs rows) ≡ first (outside (file_rows file) ∷ too_short (lacks file costs rows) ∷ [])
    past-length = first-none (header_lines file) (body_lines file costs rows) header ∙ rw (eq-eqb _ _ long)

    pub read-3 : (r : Refusal) → first (outside (file_rows file) ∷ []) ≡ some r → first (read_lines file costs rows) ≡ some r
    read-3 r e = past-length ∙ first_some (outside (file_rows file) ∷ []) (too_short (lacks file costs rows) ∷ []) r e

    past-rows : first (outside (file_rows file) ∷ []) ≡ none → first (read_lines file costs rows) ≡ first (too_short (lacks file costs rows) ∷ [])
    past-rows e = past-length ∙ first-none (outside (file_rows file) ∷ []) (too_short (lacks file costs rows) ∷ []) e

    pub read-8 : first (outside (file_rows file) ∷ []) ≡ none → lacks file costs rows ≡ true → first (read_lines file costs rows) ≡ some short
    read-8 e s = past-rows e ∙ first_short _ s

    pub read_none : first (outside (file_rows file) ∷ []) ≡ none → lacks file costs rows ≡ false → first (read_lines file costs rows) ≡ none
    read_none e s = past-rows e ∙ first-long _ s

-- ---- what the reader finds

-- a part that goes to the end
pub to_end : (l : List ℕ) (at : ℕ) → take (length l - at) (drop at l) ≡ drop at l
to_end l at = take_all (length l - at) (drop at l) (rw length-drop (omega arith))

-- the first n of what `rows_of` gives are the file's rows
pub found_rows : (file found : List ℕ) (n : ℕ) → n ≡ count file → found ≡ numbers 8 n (take (length file - (6 + 4 * n)) (drop (6 + 4 * n) file)) ++ replicate (64 - n) 0
    → take n found ≡ file_rows file
found_rows file found n e f =
    ap (take n) f
    ∙ ap (λ (l : List ℕ). take n (numbers 8 n l ++ replicate (64 - n) 0)) (to_end file (6 + 4 * n))
    ∙ take_at (numbers 8 n (drop (6 + 4 * n) file)) (replicate (64 - n) 0) n (numbers-length 8 n (drop (6 + 4 * n) file))
    ∙ ap (λ (m : ℕ). numbers 8 m (drop (6 + 4 * m) file)) e

pub found-costs : (file : List ℕ) (n : ℕ) → n ≡ count file → numbers 4 n (take (length file - 6) (drop 6 file)) ≡ file_costs file
found-costs file n e = ap (numbers 4 n) (to_end file 6) ∙ ap (λ (m : ℕ). numbers 4 m (drop 6 file)) e

-- ---- the writer, past the checks

module _ (rows : List ℕ) (costs out : ℕ) (checked : first (checks rows costs) ≡ none) where
  past-checks : first (write_lines rows costs out) ≡ first (too_short (ltb out (6 + 12 * length rows)) ∷ [])
  past-checks = first-none (checks rows costs) (too_short (ltb out (6 + 12 * length rows)) ∷ []) checked

  pub write-8 : out < 6 + 12 * length rows → first (write_lines rows costs out) ≡ some short
  write-8 h = past-checks ∙ first_short _ (lt-ltb _ _ h)

  pub write-none : 6 + 12 * length rows ≤ out → first (write_lines rows costs out) ≡ none
  write-none h = past-checks ∙ first-long _ (le-ltb _ _ h)
