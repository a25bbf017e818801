-- A node's word: "node words pack a variable and two branches". Assumes nothing.
use Rattle.std.specs.Prelude.{ℕ, ◌+◌, ◌*◌, ◌/◌, ◌%◌, ◌^◌}

-- the variable from bit 34 on, the code of the low branch in the 17 bits below it, that of the high branch in the last 17
unfoldable pub packed : ℕ → ℕ → ℕ → ℕ
packed v low high = v * 2 ^ 34 + (low * 2 ^ 17 + high)

unfoldable pub variable_of : ℕ → ℕ
variable_of w = w / 2 ^ 34

unfoldable pub low_of : ℕ → ℕ
low_of w = w / 2 ^ 17 % 2 ^ 17

unfoldable pub high_of : ℕ → ℕ
high_of w = w % 2 ^ 17
