-- What `read` and `write` promise for every input. Assumes nothing.
use Rattle.std.specs.Prelude.{◌≡◌, Bool, not, ◌&&◌, ◌||◌, List, [], ◌∷◌, ◌++◌, ℕ, ◌+◌, ◌*◌, ltb, eqb, length, get_or, drop, Result, Ok, Err}
use Rattle.graphs.specs.Refusals.{Line, refusal_of, first, too_many, outside, checks}
use Rattle.graphs.specs.declared.refusal.Refusal.{Refusal}
use Rattle.graphs.specs.declared.refusal.Refusal.TheVariants.{Foreign, OtherVersion, OtherLength, OutputTooShort}
use Rattle.blockfile.specs.Layout.{layout, version, count, file_costs, file_rows}

-- ---- the lines of the refusal table

-- 5: "file shorter than 6 bytes, or first three not `FVG`"
abbrev pub foreign : List ℕ → Line
foreign file =
    record { given = ltb (length file) 6 || not (eqb (get_or file 0 0) 70 && eqb (get_or file 1 0) 86 && eqb (get_or file 2 0) 71); refusal = Foreign }

-- 6: "file version not 1"
abbrev pub other_version : List ℕ → Line
other_version file = record { given = not (eqb (version file) 1); refusal = OtherVersion }

-- 7: "file length not 6 + 12n"
abbrev pub other_length : List ℕ → Line
other_length file = record { given = not (eqb (length file) (6 + 12 * count file)); refusal = OtherLength }

-- 8: "a lent output is too short"
abbrev pub too_short : Bool → Line
too_short given = record { given = given; refusal = OutputTooShort }

-- a header: 5, 6, 1. "read 5, 6, 1, 7, 3, 8"
abbrev pub header_lines : List ℕ → List Line
header_lines file = foreign file ∷ other_version file ∷ too_many (count file) ∷ []

abbrev pub body_lines : List ℕ → ℕ → ℕ → List Line
body_lines file costs rows = other_length file ∷ outside (file_rows file) ∷ too_short (ltb costs (count file) || ltb rows (count file)) ∷ []

abbrev pub read_lines : List ℕ → ℕ → ℕ → List Line
read_lines file costs rows = header_lines file ++ body_lines file costs rows

-- "write 1, 2, 3, 8"
abbrev pub write_lines : List ℕ → ℕ → ℕ → List Line
write_lines rows costs out = checks rows costs ++ too_short (ltb out (6 + 12 * length rows)) ∷ []

-- what an operation answers: a number, or the refusal
abbrev pub Answer : Type 0
Answer = Result ℕ Refusal

-- ---- its values, and what the lent buffers hold afterwards

-- a header that is accepted gives the count
abbrev pub HeaderValue : List ℕ → Answer → Type 0
HeaderValue file (Ok n) = n ≡ count file
HeaderValue file (Err r) = Unit {0}

-- "The reader fills the first n costs and rows .. what follows stays"; a refusal writes nothing
abbrev pub ReadEffect : List ℕ → List ℕ → List ℕ → Answer → List ℕ → List ℕ → Type 0
ReadEffect file costs rows (Ok n) costs' rows' =
    (n ≡ count file) × (costs' ≡ file_costs file ++ drop n costs) × (rows' ≡ file_rows file ++ drop n rows)
ReadEffect file costs rows (Err r) costs' rows' = (costs' ≡ costs) × (rows' ≡ rows)

-- ".. the writer the first 6 + 12n bytes; what follows stays"
abbrev pub WriteEffect : List ℕ → List ℕ → List ℕ → Answer → List ℕ → Type 0
WriteEffect rows costs out (Ok n) out' = (n ≡ 6 + 12 * length rows) × (out' ≡ layout costs rows ++ drop n out)
WriteEffect rows costs out (Err r) out' = out' ≡ out

-- ---- the promises

pub record HeaderPromise (file : List ℕ) (answer : Answer) : Type 0 where
  pub refusal : refusal_of answer ≡ first (header_lines file)
  pub value : HeaderValue file answer

pub record ReadPromise (file costs rows : List ℕ) (answer : Answer) (costs' rows' : List ℕ) : Type 0 where
  pub refusal : refusal_of answer ≡ first (read_lines file (length costs) (length rows))
  pub effect : ReadEffect file costs rows answer costs' rows'

pub record WritePromise (rows costs out : List ℕ) (answer : Answer) (out' : List ℕ) : Type 0 where
  pub refusal : refusal_of answer ≡ first (write_lines rows (length costs) (length out))
  pub effect : WriteEffect rows costs out answer out'
