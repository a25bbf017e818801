-- The block file, byte for byte. Assumes nothing.
use Rattle.std.specs.Prelude.{List, [], ◌∷◌, ◌++◌, ℕ, zero, suc, ◌+◌, ◌*◌, ◌/◌, ◌%◌, length, take, drop}

-- "every number low byte first": the k bytes of x, and the number that bytes are
unfoldable pub bytes : ℕ → ℕ → List ℕ
bytes zero x = []
bytes (suc k) x = x % 256 ∷ bytes k (x / 256)

unfoldable pub value : List ℕ → ℕ
value [] = 0
value (b ∷ bs) = b + 256 * value bs

-- numbers of k bytes each, one after the other: as bytes, and the first m of them out of bytes
unfoldable pub spelled : ℕ → List ℕ → List ℕ
spelled k [] = []
spelled k (x ∷ xs) = bytes k x ++ spelled k xs

unfoldable pub numbers : ℕ → ℕ → List ℕ → List ℕ
numbers k zero bs = []
numbers k (suc m) bs = value (take k bs) ∷ numbers k m (drop k bs)

-- "`FVG`, version 1 as two bytes, n as one byte"
abbrev pub heading : ℕ → List ℕ
heading n = (70 ∷ 86 ∷ 71 ∷ []) ++ bytes 2 1 ++ bytes 1 n

-- ".. n costs of four bytes, n rows of eight"
abbrev pub layout : List ℕ → List ℕ → List ℕ
layout costs rows = heading (length rows) ++ spelled 4 costs ++ spelled 8 rows

-- the same of a file that is read: its version, its count, its costs, and its rows, "the part of the file that starts at byte 6 + 4n"
abbrev pub version : List ℕ → ℕ
version file = value (take 2 (drop 3 file))

abbrev pub count : List ℕ → ℕ
count file = value (take 1 (drop 5 file))

abbrev pub file_costs : List ℕ → List ℕ
file_costs file = numbers 4 (count file) (drop 6 file)

abbrev pub file_rows : List ℕ → List ℕ
file_rows file = numbers 8 (count file) (drop (6 + 4 * count file) file)
