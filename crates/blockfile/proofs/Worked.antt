-- Block A as a file, byte for byte, and an input for each refusal of the reader and the writer, with its number and place; of two refusals that apply,
-- the one that comes first. All by computation. Assumes nothing.
use Rattle.std.specs.Prelude.{Ok}
use mathlib.Core.Path.{◌≡◌, refl}
use mathlib.Core.List.{List, [], ◌∷◌, ◌++◌}
use mathlib.Core.Option.{Option, none, some}
use Prim.Native.Nat.{ℕ}
use lib.ListN.{length, take, set, replicate}
use Rattle.masks.specs.Sets.{lowest}
use Rattle.graphs.specs.Refusals.{first}
use Rattle.graphs.specs.declared.refusal.Refusal.{Refusal}
use Rattle.graphs.proofs.Tables.{refusal_at}
use Rattle.blockfile.specs.Layout.{bytes, value, spelled, numbers, layout, version, count, file_costs, file_rows}
use Rattle.blockfile.specs.Promise.{read_lines, write_lines, HeaderPromise, ReadPromise, WritePromise}

-- a refusal by its number and place
abbrev pub refused : ℕ → ℕ → Option Refusal
refused number place = some (refusal_at number place)

-- ---- block A: edges 0>1, 1>2, 2>0, 2>3, 3>1, costs 1, 5, 5, 1

abbrev pub rows_a : List ℕ
rows_a = 2 ∷ 4 ∷ 9 ∷ 2 ∷ []

abbrev pub costs_a : List ℕ
costs_a = 1 ∷ 5 ∷ 5 ∷ 1 ∷ []

-- its file: mark, version, count, four costs, four rows
abbrev pub file_a : List ℕ
file_a =
    70 ∷ 86 ∷ 71
    ∷ 1 ∷ 0
    ∷ 4
    ∷ 1 ∷ 0 ∷ 0 ∷ 0
    ∷ 5 ∷ 0 ∷ 0 ∷ 0
    ∷ 5 ∷ 0 ∷ 0 ∷ 0
    ∷ 1 ∷ 0 ∷ 0 ∷ 0
    ∷ 2 ∷ 0 ∷ 0 ∷ 0 ∷ 0 ∷ 0 ∷ 0 ∷ 0
    ∷ 4 ∷ 0 ∷ 0 ∷ 0 ∷ 0 ∷ 0 ∷ 0 ∷ 0
    ∷ 9 ∷ 0 ∷ 0 ∷ 0 ∷ 0 ∷ 0 ∷ 0 ∷ 0
    ∷ 2 ∷ 0 ∷ 0 ∷ 0 ∷ 0 ∷ 0 ∷ 0 ∷ 0
    ∷ []

pub layout-A : layout costs_a rows_a ≡ file_a
unfolding bytes spelled
layout-A = refl

pub length-A : length file_a ≡ 54
length-A = refl

pub read-A : (version file_a ≡ 1) × (count file_a ≡ 4) × (file_costs file_a ≡ costs_a) × (file_rows file_a ≡ rows_a) × (first (read_lines file_a 4 4) ≡ none)
unfolding value numbers lowest
read-A = (refl, refl, refl, refl, refl)

pub write-A : first (write_lines rows_a 4 54) ≡ none
unfolding lowest
write-A = refl

-- so the promises have one answer for it, and what follows in a longer buffer stays
pub header-of-A : HeaderPromise file_a (Ok 4)
unfolding value
header-of-A = record { refusal = refl; value = refl }

pub reading-of-A : ReadPromise file_a (0 ∷ 0 ∷ 0 ∷ 0 ∷ 7 ∷ []) (0 ∷ 0 ∷ 0 ∷ 0 ∷ 8 ∷ []) (Ok 4) (costs_a ++ 7 ∷ []) (rows_a ++ 8 ∷ [])
unfolding value numbers lowest
reading-of-A = record { refusal = refl; effect = (refl, refl, refl) }

pub writing-of-A : WritePromise rows_a costs_a (replicate 54 0 ++ 9 ∷ []) (Ok 54) (file_a ++ 9 ∷ [])
unfolding bytes spelled lowest
writing-of-A = record { refusal = refl; effect = (refl, refl) }

-- the block of no flip-flops
abbrev pub file_none : List ℕ
file_none = 70 ∷ 86 ∷ 71 ∷ 1 ∷ 0 ∷ 0 ∷ []

pub layout-none : layout [] [] ≡ file_none
unfolding bytes spelled
layout-none = refl

pub header-of-none : HeaderPromise file_none (Ok 0)
unfolding value
header-of-none = record { refusal = refl; value = refl }

pub reading-of-none : ReadPromise file_none [] [] (Ok 0) [] []
unfolding value numbers lowest
reading-of-none = record { refusal = refl; effect = (refl, refl, refl) }

pub writing-of-none : WritePromise [] [] (replicate 6 0) (Ok 6) file_none
unfolding bytes spelled lowest
writing-of-none = record { refusal = refl; effect = (refl, refl) }

-- ---- the reader's refusals

-- 5: too short for a header, or another mark
pub read-empty : first (read_lines [] 4 4) ≡ refused 5 0
unfolding value numbers lowest
read-empty = refl

pub read-five-bytes : first (read_lines (take 5 file_a) 4 4) ≡ refused 5 0
unfolding value numbers lowest
read-five-bytes = refl

-- `FVX`
pub read-other-mark : first (read_lines (set file_a 2 88) 4 4) ≡ refused 5 0
unfolding value numbers lowest
read-other-mark = refl

-- 6: version 2, and version 257, whose low byte is 1
pub read-version-2 : first (read_lines (set file_a 3 2) 4 4) ≡ refused 6 0
unfolding value numbers lowest
read-version-2 = refl

pub read-version-257 : first (read_lines (set file_a 4 1) 4 4) ≡ refused 6 0
unfolding value numbers lowest
read-version-257 = refl

-- 1: a count of 65, in a file of 6 + 12 * 65 bytes
pub read-count-65 : first (read_lines (70 ∷ 86 ∷ 71 ∷ 1 ∷ 0 ∷ 65 ∷ replicate 780 0) 65 65) ≡ refused 1 0
unfolding value numbers lowest
read-count-65 = refl

-- 7: a byte short, a byte over
pub read-byte-short : first (read_lines (take 53 file_a) 4 4) ≡ refused 7 0
unfolding value numbers lowest
read-byte-short = refl

pub read-byte-over : first (read_lines (file_a ++ 0 ∷ []) 4 4) ≡ refused 7 0
unfolding value numbers lowest
read-byte-over = refl

-- 3: bit 4 in rows 1 and 2; the place is the lowest
abbrev pub wide_a : List ℕ
wide_a = set (set file_a 30 16) 38 16

pub read-wide-rows : (file_rows wide_a ≡ 2 ∷ 16 ∷ 16 ∷ 2 ∷ []) × (first (read_lines wide_a 4 4) ≡ refused 3 1)
unfolding value numbers lowest
read-wide-rows = (refl, refl)

-- 8: room for three costs, for three rows
pub read-three-costs : first (read_lines file_a 3 4) ≡ refused 8 0
unfolding value numbers lowest
read-three-costs = refl

pub read-three-rows : first (read_lines file_a 4 3) ≡ refused 8 0
unfolding value numbers lowest
read-three-rows = refl

-- of two that apply, the first in the order 5, 6, 1, 7, 3, 8
pub read-5-before-6 : first (read_lines (take 5 (set file_a 3 2)) 4 4) ≡ refused 5 0
unfolding value numbers lowest
read-5-before-6 = refl

pub read-6-before-1 : first (read_lines (set (set file_a 3 2) 5 65) 4 4) ≡ refused 6 0
unfolding value numbers lowest
read-6-before-1 = refl

pub read-1-before-7 : first (read_lines (set file_a 5 65) 65 65) ≡ refused 1 0
unfolding value numbers lowest
read-1-before-7 = refl

pub read-7-before-3 : first (read_lines (take 53 wide_a) 4 4) ≡ refused 7 0
unfolding value numbers lowest
read-7-before-3 = refl

pub read-3-before-8 : first (read_lines wide_a 0 0) ≡ refused 3 1
unfolding value numbers lowest
read-3-before-8 = refl

-- ---- the writer's refusals

-- 1: 65 rows
pub write-65-rows : first (write_lines (replicate 65 0) 65 786) ≡ refused 1 0
unfolding lowest
write-65-rows = refl

-- 2: three costs, five costs
pub write-three-costs : first (write_lines rows_a 3 54) ≡ refused 2 0
unfolding lowest
write-three-costs = refl

pub write-five-costs : first (write_lines rows_a 5 54) ≡ refused 2 0
unfolding lowest
write-five-costs = refl

-- 3: bit 4 in rows 1 and 2
pub write-wide-rows : first (write_lines (2 ∷ 16 ∷ 16 ∷ 2 ∷ []) 4 54) ≡ refused 3 1
unfolding lowest
write-wide-rows = refl

-- 8: a byte short
pub write-byte-short : first (write_lines rows_a 4 53) ≡ refused 8 0
unfolding lowest
write-byte-short = refl

-- of two that apply, the first in the order 1, 2, 3, 8
pub write-1-before-2 : first (write_lines (replicate 65 0) 4 786) ≡ refused 1 0
unfolding lowest
write-1-before-2 = refl

pub write-2-before-3 : first (write_lines (2 ∷ 16 ∷ 16 ∷ 2 ∷ []) 3 54) ≡ refused 2 0
unfolding lowest
write-2-before-3 = refl

pub write-3-before-8 : first (write_lines (2 ∷ 16 ∷ 16 ∷ 2 ∷ []) 4 0) ≡ refused 3 1
unfolding lowest
write-3-before-8 = refl
