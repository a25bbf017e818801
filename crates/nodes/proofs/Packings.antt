-- Node words and memo words in arithmetic: what is packed comes out again, shifts and masks compute the packing, and a word's home is a place of the room.
-- Assumes nothing.
use mathlib.Core.Path.{◌≡◌, refl, ◌∙◌}
use mathlib.Core.Logic.{◌≢◌}
use mathlib.Core.Bool.{Bool, true, false}
use Prim.Native.Nat.{ℕ, min, max, ◌+◌, ◌*◌, ◌/◌, ◌%◌, ◌^◌, ◌≤◌, ◌<◌}
use native.Mathlib.Omega.{arith}
use native.Mathlib.Nat.{le_of_lt, mul-le-mul_left, mul-lt-mul_of_pos_right, div-lt_iff_lt-mul}
use lib.Bits.{bit_and, bit_or, and_mask, or_shifted, or_shifted_r}
use Rattle.std.specs.Int.Bits.{or_zero_r}
use lib.Dec.{ltb}
use borrow.Author.Tests.{lt-ltb, le-ltb, ltb-false}
use Rattle.masks.specs.Sets.{pick}
use Rattle.nodes.specs.Packing.{packed, variable_of, low_of, high_of}
use Rattle.nodes.specs.Codes.{mixed, home}
use Rattle.nodes.specs.Promise.{pair, key, noted}

-- ---- node words

module _ (v low high : ℕ) where
  module _ (l : low < 2 ^ 17) (h : high < 2 ^ 17) where
    pub packed-variable : variable_of (packed v low high) ≡ v
    unfolding packed variable_of
    packed-variable = omega arith

    pub packed-low : low_of (packed v low high) ≡ low
    unfolding packed low_of
    packed-low = omega arith

    pub packed-high : high_of (packed v low high) ≡ high
    unfolding packed high_of
    packed-high = omega arith

    pub packed-fits : v < 2 ^ 8 → packed v low high < 2 ^ 42
    unfolding packed
    packed-fits k = omega arith

    pub pack-is : v < 2 ^ 8 → bit_or (v * 2 ^ 34 % 2 ^ 64) (bit_or (low * 2 ^ 17 % 2 ^ 64) high) ≡ packed v low high
    unfolding packed
    pack-is k =
        let e : v * 2 ^ 34 % 2 ^ 64 ≡ v * 2 ^ 34 = omega arith in
        let f : low * 2 ^ 17 % 2 ^ 64 ≡ low * 2 ^ 17 = omega arith in
        let i : low * 2 ^ 17 + high < 2 ^ 34 = omega arith in
        rw (e, f, or_shifted low 17 high h) (or_shifted v 34 (low * 2 ^ 17 + high) i)

  -- a word whose branches differ is not 0
  pub packed-nonzero : low ≢ high → packed v low high ≢ 0
  unfolding packed
  packed-nonzero d e = omega arith

pub packed-again : (w : ℕ) → packed (variable_of w) (low_of w) (high_of w) ≡ w
unfolding packed variable_of low_of high_of
packed-again w = omega arith

-- ---- the home of a word

pub mixed-lt : (w : ℕ) → mixed w < 2 ^ 32
unfolding mixed
mixed-lt w = omega arith

pub mix-is : (w : ℕ) → bit_and ((bit_and w 0x1f_ffff * 0x279_e377_9b97 + w / 2 ^ 21 * 0x1a5_5c32_1e6b) / 2 ^ 10) 0xffff_ffff ≡ mixed w
unfolding mixed
mix-is w = rw (and_mask w 21) (and_mask _ 32)

-- a product of numbers below 2^32 is a word
pub product-fits : (a b : ℕ) → a < 2 ^ 32 → b < 2 ^ 32 → a * b < 2 ^ 64
product-fits a b l k =
    let m : a * b ≤ a * 2 ^ 32 = mul-le-mul_left a (le_of_lt k) in
    omega arith

pub home-lt : (w n : ℕ) → 0 < n → home w n < n
unfolding home
home-lt w n k = go (ltb n (2 ^ 32)) refl
  where
    go : (x : Bool) → ltb n (2 ^ 32) ≡ x → pick x (mixed w * n / 2 ^ 32) (mixed w) < n
    go true e =
        let m : mixed w * n < 2 ^ 32 * n = mul-lt-mul_of_pos_right (mixed-lt w) k in
        (div-lt_iff_lt-mul {k = 2 ^ 32} {x = mixed w * n} {y = n} (omega arith)).1 (omega arith)
    go false e = omega (arith, mixed-lt w, ltb-false n (2 ^ 32) e)

pub home-scaled : (w n : ℕ) → n < 2 ^ 32 → mixed w * n / 2 ^ 32 ≡ home w n
unfolding home
home-scaled w n l = rw (lt-ltb n (2 ^ 32) l)

pub home-far : (w n : ℕ) → 2 ^ 32 ≤ n → mixed w ≡ home w n
unfolding home
home-far w n l = rw (le-ltb n (2 ^ 32) l)

-- ---- memo words

pub pair_is : (a b c d : ℕ) → c < 2 ^ 17 → d < 2 ^ 17 → c ≡ min a b → d ≡ max a b → bit_or (c * 2 ^ 17 % 2 ^ 64) d ≡ pair a b
unfolding pair
pair_is a b c d l k e f =
    let g : c * 2 ^ 17 % 2 ^ 64 ≡ c * 2 ^ 17 = omega arith in
    rw g (or_shifted c 17 d k ∙ omega arith)

pub pair_fits : (a b : ℕ) → a < 2 ^ 17 → b < 2 ^ 17 → pair a b < 2 ^ 34
unfolding pair
pair_fits a b l k = omega arith

pub key-or : (a b : ℕ) → a < 2 ^ 17 → b < 2 ^ 17 → bit_or (pair a b) (2 ^ 34) ≡ key true a b
unfolding key
key-or a b l k = or_shifted_r 1 34 (pair a b) (pair_fits a b l k) ∙ omega arith

pub key-and : (a b : ℕ) → pair a b ≡ key false a b
unfolding key
key-and a b = omega arith

pub key-marked : (or : Bool) (a b m : ℕ) → a < 2 ^ 17 → b < 2 ^ 17 → m ≡ pick or (2 ^ 34) 0 → bit_or (pair a b) m ≡ key or a b
key-marked true a b m l k e = rw e (key-or a b l k)
key-marked false a b m l k e = rw e (or_zero_r (pair a b) ∙ key-and a b)

pub key_fits : (or : Bool) (a b : ℕ) → a < 2 ^ 17 → b < 2 ^ 17 → key or a b < 2 ^ 42
unfolding key
key_fits true a b l k = omega (arith, pair_fits a b l k)
key_fits false a b l k = omega (arith, pair_fits a b l k)

-- a memo word is put together from its key and its result, and taken apart
module _ (or : Bool) (a b k : ℕ) (e : k ≡ key or a b) where
  pub noted-is : (r : ℕ) → a < 2 ^ 17 → b < 2 ^ 17 → r < 2 ^ 17 → bit_or (k * 2 ^ 17 % 2 ^ 64) r ≡ noted or a b r
  unfolding noted
  noted-is r l m j =
      let f : k * 2 ^ 17 % 2 ^ 64 ≡ key or a b * 2 ^ 17 = omega (arith, key_fits or a b l m) in
      rw f (or_shifted (key or a b) 17 r j)

  pub noted-from : (w : ℕ) → w / 2 ^ 17 ≡ k → w ≡ noted or a b (bit_and w 0x1_ffff)
  unfolding noted
  noted-from w f = omega (arith, and_mask w 17)
