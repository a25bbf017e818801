-- The numbers of masks of the code. Assumes nothing.
use mathlib.Core.Path.{◌≡◌, refl}
use Prim.Native.Nat.{ℕ, ◌<◌}
use lib.Dec.{ltb}
use Rattle.std.proofs.slice.Orders.{nat_cmp-ltb}
use Rattle.std.specs.Ordering.{MatchOrdering, is_lt}
use Rattle.std.specs.Cmp.{ranks}
use Rattle.masks.specs.Sets.{number}
use Rattle.masks.specs.declared.Mask.{Mask}
use Rattle.masks.specs.contracts.MaskOrd.TheImpl.{cmp-value}

abbrev pub mask_of : ℕ → Mask
mask_of m = record { 0 = m }

pub mask_of-number : (m : ℕ) → number (mask_of m) ≡ m
unfolding number
mask_of-number m = refl

pub number-inj : (a b : Mask) → number a ≡ number b → a ≡ b
unfolding number
number-inj a b e = λ i. record { 0 = e i }

-- the order that masks derive is that of their numbers
pub order-number : (a b : Mask) → MatchOrdering (cmp-value.it a b) (number a < number b) (number a ≡ number b) (number b < number a)
unfolding number
order-number a b = ranks a.0 b.0

-- a mask is less than another where its number is
pub order-less : (a b : Mask) → is_lt (cmp-value.it a b) ≡ ltb (number a) (number b)
unfolding number
order-less a b = nat_cmp-ltb a.0 b.0
