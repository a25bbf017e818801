-- Sets of flip-flops as numbers. Assumes nothing.
use Rattle.std.specs.Prelude.{Bool, true, false, ℕ, zero, suc, ◌+◌, ◌-◌, ◌/◌, ◌%◌, ◌^◌, eqb}
use Rattle.std.specs.Int.Bits.{bit_and}
use Rattle.masks.specs.declared.Mask.{Mask}

-- the first of two where the test holds, else the second
abbrev pub pick {ℓ} : {A : Type ℓ} → Bool → A → A → A
pick true a b = a
pick false a b = b

-- "A set is a mask": v is in the set m where the binary digit v of m is 1
unfoldable pub bit : ℕ → ℕ → Bool
bit m v = eqb (m / 2 ^ v % 2) 1

-- m with v, and m without v
unfoldable pub put : ℕ → ℕ → ℕ
put m v = pick (bit m v) m (m + 2 ^ v)

unfoldable pub cut : ℕ → ℕ → ℕ
cut m v = pick (bit m v) (m - 2 ^ v) m

-- the members of a that b has not
unfoldable pub minus : ℕ → ℕ → ℕ
minus a b = a - bit_and a b

-- the set of those below n that pass a test
unfoldable pub those : ℕ → (ℕ → Bool) → ℕ
those zero p = 0
those (suc n) p = those n p + pick (p n) (2 ^ n) 0

-- the lowest below n that passes a test, and n where none does
unfoldable pub lowest : ℕ → (ℕ → Bool) → ℕ
lowest zero p = 0
lowest (suc n) p = pick (p 0) 0 (suc (lowest n (λ v. p (suc v))))

-- "its cost is the sum of its members' costs", over the members below n
unfoldable pub weight : (ℕ → ℕ) → ℕ → ℕ → ℕ
weight c zero m = 0
weight c (suc n) m = weight c n m + pick (bit m n) (c n) 0

-- the number that a mask of the code is
unfoldable pub number : Mask → ℕ
number m = m.0
