-- The lent rooms: how much of the node room counts, how much of it is in use, and what both hold after an answer. Assumes nothing.
use Rattle.std.specs.Prelude.{List, [], ◌∷◌, ◌++◌, ℕ, zero, suc, min, length, drop, replicate}

-- "Capacity is the smaller of the room's length and 65,536"
abbrev pub capacity : List ℕ → ℕ
capacity nodes = min (length nodes) 65536

-- "the node room (its first 65,536 words, if longer) [is] all zero; node room past that is neither read nor written"
abbrev pub emptied : List ℕ → List ℕ
emptied nodes = replicate (capacity nodes) 0 ++ drop 65536 nodes

-- ".. and the memo room"
abbrev pub zeroed : List ℕ → List ℕ
zeroed memo = replicate (length memo) 0

-- the number of words in use: those that are not 0
unfoldable pub used : List ℕ → ℕ
used [] = 0
used (zero ∷ ws) = used ws
used (suc w ∷ ws) = suc (used ws)
