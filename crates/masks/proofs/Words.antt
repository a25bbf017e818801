-- What the operations of a word of w bits do to the set that it is: `or` and `and` with a shifted one or a complement. Shown bit by bit, over the
-- width. Assumes nothing.
use mathlib.Core.Path.{◌≡◌, refl, sym, ap, ◌∙◌}
use mathlib.Core.Logic.{◌≢◌}
use mathlib.Core.Bool.{Bool, true, false, not, ◌&&◌, ◌||◌, and-false, and-true, or-false, or-true}
use Prim.Native.Nat.{ℕ, ◌-◌, ◌*◌, ◌/◌, ◌%◌, ◌^◌, ◌≤◌, ◌<◌}
use native.Mathlib.Omega.{arith}
use native.Mathlib.Nat.{one-mul, mod-lt, mod-eq_of_lt}
use native.Mathlib.Decide.{ℕ_discrete, dec_lt}
use borrow.Author.Tests.{lt-leb, le-leb, eq-eqb, ne_eqb}
use lib.Dec.{eqb, leb}
use lib.Pow.{pow-lt, pow_pos}
use lib.Bits.{bit_and, bit_or, and_mask, and_le_l, and_lt, or_lt, or_disjoint}
use Rattle.masks.specs.Sets.{bit, put, cut, minus}
use Rattle.masks.proofs.Bits.{bit-ext, bit-zero, bit-or, bit-and, comp-bit, add_same, add-other}
use Rattle.masks.proofs.PutCut.{put_same, put_other, put-lt, cut-same, cut-other, cut-lt}

-- 1 shifted by v, in a word of w bits
pub shifted_one : (w v : ℕ) → v < w → 1 * 2 ^ v % 2 ^ w ≡ 2 ^ v
shifted_one w v l = rw one-mul (mod-eq_of_lt (pow-lt l))

-- its one member
pub one_same : (v : ℕ) → bit (2 ^ v) v ≡ true
one_same v = ap (λ x. bit x v) (omega arith) ∙ add_same 0 v (bit-zero v)

pub one-other : (v u : ℕ) → u ≢ v → bit (2 ^ v) u ≡ false
one-other v u k = ap (λ x. bit x u) (omega arith) ∙ add-other 0 v u (bit-zero v) k ∙ bit-zero u

pub test_bit : (m v : ℕ) → eqb (bit_and (m / 2 ^ v) 1) 1 ≡ bit m v
unfolding bit
test_bit m v = ap (λ x. eqb x 1) (and_mask (m / 2 ^ v) 1)

pub or_put : (w m v : ℕ) → m < 2 ^ w → v < w → bit_or m (2 ^ v) ≡ put m v
or_put w m v h l = bit-ext w _ _ (or_lt w m (2 ^ v) h (pow-lt l)) (put-lt w m v h l) (λ u _. bit-or m (2 ^ v) u ∙ at u (ℕ_discrete u v))
  where
    at : (u : ℕ) → Dec (u ≡ v) → (bit m u || bit (2 ^ v) u) ≡ bit (put m v) u
    at u (yes e) = rw (e, one_same v, put_same m v) (or-true (bit m v))
    at u (no k) = rw (one-other v u k, put_other m v u k) (or-false (bit m u))

-- `and` with the complement of b takes the members of b away
module _ (w a b : ℕ) (la : a < 2 ^ w) (lb : b < 2 ^ w) where
  apart : bit_and (bit_and a (2 ^ w - 1 - b)) (bit_and a b) ≡ 0
  apart = bit-ext w _ _ (and_lt w _ _ (and_lt w _ _ la (omega (arith, pow_pos w))) (and_lt w _ _ la lb)) (pow_pos w) at
    where
      go : (x y : Bool) → ((x && not y) && (x && y)) ≡ false
      go true true = refl
      go true false = refl
      go false y = refl

      at : (v : ℕ) → v < w → bit (bit_and (bit_and a (2 ^ w - 1 - b)) (bit_and a b)) v ≡ bit 0 v
      at v l = rw (bit-and (bit_and a (2 ^ w - 1 - b)) (bit_and a b) v, bit-and a (2 ^ w - 1 - b) v, bit-and a b v, comp-bit w b v lb l, bit-zero v) (go (bit a v) (bit b v))

  whole : bit_or (bit_and a (2 ^ w - 1 - b)) (bit_and a b) ≡ a
  whole = bit-ext w _ _ (or_lt w _ _ (and_lt w _ _ la (omega (arith, pow_pos w))) (and_lt w _ _ la lb)) la at
    where
      go : (x y : Bool) → ((x && not y) || (x && y)) ≡ x
      go true true = refl
      go true false = refl
      go false y = refl

      at : (v : ℕ) → v < w → bit (bit_or (bit_and a (2 ^ w - 1 - b)) (bit_and a b)) v ≡ bit a v
      at v l = rw (bit-or (bit_and a (2 ^ w - 1 - b)) (bit_and a b) v, bit-and a (2 ^ w - 1 - b) v, bit-and a b v, comp-bit w b v lb l) (go (bit a v) (bit b v))

  pub and-minus : bit_and a (2 ^ w - 1 - b) ≡ minus a b
  unfolding minus
  and-minus = omega (arith, or_disjoint (bit_and a (2 ^ w - 1 - b)) (bit_and a b) apart, whole)

-- a member of the difference; the width is any that holds both
pub bit-minus : (w a b v : ℕ) → a < 2 ^ w → b < 2 ^ w → v < w → bit (minus a b) v ≡ (bit a v && not (bit b v))
bit-minus w a b v la lb l = ap (λ x. bit x v) (sym (and-minus w a b la lb)) ∙ bit-and a (2 ^ w - 1 - b) v ∙ ap (λ x. bit a v && x) (comp-bit w b v lb l)

-- r has a member at n or above exactly when something of it is left without those below n
pub wide_test : (n r : ℕ) → leb (2 ^ n) r ≡ not (eqb (minus r (2 ^ n - 1)) 0)
unfolding minus
wide_test n r = go (dec_lt r (2 ^ n))
  where
    go : Dec (r < 2 ^ n) → leb (2 ^ n) r ≡ not (eqb (r - bit_and r (2 ^ n - 1)) 0)
    go (yes h) =
        let e : r - bit_and r (2 ^ n - 1) ≡ 0 = omega (arith, and_mask r n, mod-eq_of_lt h) in
        lt-leb _ _ h ∙ sym (ap not (eq-eqb _ _ e))
    go (no k) =
        let l : ¬ (r < 2 ^ n) = k in
        let h : 2 ^ n ≤ r = omega arith in
        let d : ¬ (r - bit_and r (2 ^ n - 1) ≡ 0) = λ e. omega (arith, and_mask r n, and_le_l r (2 ^ n - 1), mod-lt r (pow_pos n)) in
        le-leb _ _ h ∙ sym (ap not (ne_eqb _ _ d))

pub and_cut : (w m v : ℕ) → m < 2 ^ w → v < w → bit_and m (2 ^ w - 1 - 2 ^ v) ≡ cut m v
and_cut w m v h l = bit-ext w _ _ (and_lt w _ _ h (omega (arith, pow_pos w))) (cut-lt w m v h) (λ u k. bit-and m (2 ^ w - 1 - 2 ^ v) u ∙ at u k (ℕ_discrete u v))
  where
    at : (u : ℕ) → u < w → Dec (u ≡ v) → (bit m u && bit (2 ^ w - 1 - 2 ^ v) u) ≡ bit (cut m v) u
    at u k (yes e) = rw (comp-bit w (2 ^ v) u (pow-lt l) k, e, one_same v, cut-same m v) (and-false (bit m v))
    at u k (no q) = rw (comp-bit w (2 ^ v) u (pow-lt l) k, one-other v u q, cut-other m v u q) (and-true (bit m u))
