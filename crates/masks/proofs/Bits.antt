-- The binary digits of a number, as the members of a set: two sets with the same members are equal, and what `or`, `and`, a shift and a complement do
-- to a member. Shown by induction on the digit, with the powers of two as unknowns. Assumes nothing.
use mathlib.Core.Path.{◌≡◌, refl, sym, ap, ◌∙◌, subst}
use mathlib.Core.Logic.{◌≢◌, ◌↔◌}
use mathlib.Core.Bool.{Bool, true, false, not, ◌&&◌, ◌||◌, true≢false, or_assoc as test-assoc}
use Prim.Native.Nat.{ℕ, zero, suc, ◌+◌, ◌-◌, ◌*◌, ◌/◌, ◌%◌, ◌^◌, ◌≤◌, ◌<◌, max, min}
use native.Mathlib.Omega.{arith}
use native.Mathlib.Nat.{pow-suc, div-one, mul_assoc, mul_comm, add_comm}
use native.Mathlib.Numerals.{one-add}
use native.Mathlib.Decide.{dec_lt}
use lib.Dec.{T, eqb, eqb→eq}
use lib.Pow.{shr-shr, high, pow_pos, pow_mono}
use lib.Bits.{bit_and, bit_or, and_step, or_step, and_shr, or_shr}
use Rattle.masks.specs.Sets.{bit}
use Rattle.masks.proofs.Tests.{iff-eq, T_false}

-- ---- digits, as numbers

digit : ℕ → ℕ → ℕ
digit m v = m / 2 ^ v % 2

digit_lt : (m v : ℕ) → digit m v < 2
unfolding digit
digit_lt m v = omega arith

digit-zero : (m : ℕ) → digit m 0 ≡ m % 2
unfolding digit
digit-zero m = rw div-one

digit-suc : (m v : ℕ) → digit m (suc v) ≡ digit (m / 2) v
unfolding digit
digit-suc m v = rw (← one-add v, ← shr-shr m 1 v)

-- two numbers of n digits with the same digits are equal
digit-ext : (n a b : ℕ) → a < 2 ^ n → b < 2 ^ n → ((v : ℕ) → v < n → digit a v ≡ digit b v) → a ≡ b
digit-ext zero a b ha hb h = omega arith
digit-ext (suc n) a b ha hb h =
    let ha' : a < 2 ^ n * 2 = rw pow-suc at ha in
    let hb' : b < 2 ^ n * 2 = rw pow-suc at hb in
    let low : a % 2 ≡ b % 2 = rw (digit-zero a, digit-zero b) at (h 0 (omega arith)) in
    let high : a / 2 ≡ b / 2 = digit-ext n (a / 2) (b / 2) (omega arith) (omega arith) (λ v l. sym (digit-suc a v) ∙ h (suc v) (omega arith) ∙ digit-suc b v) in
    omega arith

-- adding a power of two at a digit that is 0: the halves and the lowest digits
half-add : (m v : ℕ) → (m + 2 ^ suc v) / 2 ≡ m / 2 + 2 ^ v
half-add m v = rw pow-suc (omega arith)

odd-add : (m v : ℕ) → (m + 2 ^ suc v) % 2 ≡ m % 2
odd-add m v = rw pow-suc (omega arith)

digit-add-same : (v m : ℕ) → digit m v ≡ 0 → digit (m + 2 ^ v) v ≡ 1
digit-add-same zero m h =
    let e : m % 2 ≡ 0 = rw digit-zero at h in
    rw digit-zero (omega arith)
digit-add-same (suc v) m h = rw (digit-suc, half-add) (digit-add-same v (m / 2) (rw digit-suc at h))

digit-add-other : (v m w : ℕ) → digit m v ≡ 0 → w ≢ v → digit (m + 2 ^ v) w ≡ digit m w
digit-add-other zero m zero h k = absurd (k refl)
digit-add-other zero m (suc w) h k =
    let e : m % 2 ≡ 0 = rw digit-zero at h in
    let f : (m + 1) / 2 ≡ m / 2 = omega arith in
    digit-suc (m + 1) w ∙ ap (λ x. digit x w) f ∙ sym (digit-suc m w)
digit-add-other (suc v) m zero h k = digit-zero (m + 2 ^ suc v) ∙ odd-add m v ∙ sym (digit-zero m)
digit-add-other (suc v) m (suc w) h k =
    digit-suc (m + 2 ^ suc v) w ∙ ap (λ x. digit x w) (half-add m v)
    ∙ digit-add-other v (m / 2) w (rw digit-suc at h) (λ e. k (ap suc e)) ∙ sym (digit-suc m w)

-- a power of two at a digit that is 0 keeps the number below 2 ^ n
digit-add-lt : (v n m : ℕ) → v < n → m < 2 ^ n → digit m v ≡ 0 → m + 2 ^ v < 2 ^ n
digit-add-lt v zero m l h d = absurd (omega arith)
digit-add-lt zero (suc n) m l h d =
    let h' : m < 2 ^ n * 2 = rw pow-suc at h in
    let e : m % 2 ≡ 0 = rw digit-zero at d in
    rw pow-suc (omega arith)
digit-add-lt (suc v) (suc n) m l h d =
    let h' : m < 2 ^ n * 2 = rw pow-suc at h in
    let ih : m / 2 + 2 ^ v < 2 ^ n = digit-add-lt v n (m / 2) (omega arith) (omega arith) (rw digit-suc at d) in
    rw (pow-suc 2 n, pow-suc 2 v) (omega arith)

-- a digit that is 1 is a power of two that the number holds
digit-le : (v m : ℕ) → digit m v ≡ 1 → 2 ^ v ≤ m
digit-le zero m h =
    let e : m % 2 ≡ 1 = rw digit-zero at h in
    omega arith
digit-le (suc v) m h =
    let ih : 2 ^ v ≤ m / 2 = digit-le v (m / 2) (rw digit-suc at h) in
    rw pow-suc (omega arith)

digit-sub-same : (v m : ℕ) → digit m v ≡ 1 → digit (m - 2 ^ v) v ≡ 0
digit-sub-same zero m h =
    let e : m % 2 ≡ 1 = rw digit-zero at h in
    rw digit-zero (omega arith)
digit-sub-same (suc v) m h =
    let g : digit (m / 2) v ≡ 1 = rw digit-suc at h in
    let l : 2 ^ v ≤ m / 2 = digit-le v (m / 2) g in
    let e : (m - 2 ^ suc v) / 2 ≡ m / 2 - 2 ^ v = rw pow-suc (omega arith) in
    rw (digit-suc, e) (digit-sub-same v (m / 2) g)

-- ---- bits

bit-of-digit : (m v : ℕ) → bit m v ≡ eqb (digit m v) 1
unfolding bit digit
bit-of-digit m v = refl

digit-one : (m v : ℕ) → bit m v ≡ true → digit m v ≡ 1
digit-one m v h = eqb→eq (digit m v) 1 (subst T (sym h ∙ bit-of-digit m v) tt)

bit-true : (m v : ℕ) → digit m v ≡ 1 → bit m v ≡ true
bit-true m v h = bit-of-digit m v ∙ ap (λ x. eqb x 1) h

bit-false : (m v : ℕ) → digit m v ≡ 0 → bit m v ≡ false
bit-false m v h = bit-of-digit m v ∙ ap (λ x. eqb x 1) h

digit-nought : (m v : ℕ) → bit m v ≡ false → digit m v ≡ 0
digit-nought m v h =
    let k : digit m v ≢ 1 = λ e. true≢false (sym (bit-true m v e) ∙ h) in
    omega (arith, digit_lt m v)

-- a digit and its bit are 1 and true, or 0 and false: what holds of both pairs holds of them
by-digit : (P : ℕ → Bool → Type 0) → P 1 true → P 0 false → (m v : ℕ) → P (digit m v) (bit m v)
by-digit P p q m v = go (bit m v) refl
  where
    go : (x : Bool) → bit m v ≡ x → P (digit m v) x
    go true e = rw (digit-one m v e) p
    go false e = rw (digit-nought m v e) q

by_digits : (P : ℕ → ℕ → Bool → Bool → Type 0) → P 1 1 true true → P 1 0 true false → P 0 1 false true → P 0 0 false false → (a b v : ℕ)
    → P (digit a v) (digit b v) (bit a v) (bit b v)
by_digits P p q r s a b v =
    by-digit (λ i x. P i (digit b v) x (bit b v)) (by-digit (λ j y. P 1 j true y) p q b v) (by-digit (λ j y. P 0 j false y) r s b v) a v

bit-digit : (a b v w : ℕ) → bit a v ≡ bit b w → digit a v ≡ digit b w
bit-digit a b v w = by-digit (λ i x. bit a v ≡ x → digit a v ≡ i) (digit-one a v) (digit-nought a v) b w

digit-bit : (a b v w : ℕ) → digit a v ≡ digit b w → bit a v ≡ bit b w
digit-bit a b v w e = bit-of-digit a v ∙ ap (λ x. eqb x 1) e ∙ sym (bit-of-digit b w)

-- extensionality
pub bit-ext : (n a b : ℕ) → a < 2 ^ n → b < 2 ^ n → ((v : ℕ) → v < n → bit a v ≡ bit b v) → a ≡ b
bit-ext n a b ha hb h = digit-ext n a b ha hb (λ v l. bit-digit a b v v (h v l))

-- a number that holds no digit from n on is below 2 ^ n; a number below 2 ^ n holds none
pub bit_high : (n m v : ℕ) → m < 2 ^ n → n ≤ v → bit m v ≡ false
bit_high n m v h l = bit-false m v (go n m v h l)
  where
    go : (n m v : ℕ) → m < 2 ^ n → n ≤ v → digit m v ≡ 0
    go zero m zero h l = rw digit-zero (omega arith)
    go zero m (suc v) h l = rw digit-suc (go zero (m / 2) v (omega arith) (omega arith))
    go (suc n) m zero h l = absurd (omega arith)
    go (suc n) m (suc v) h l =
        let k : m < 2 ^ n * 2 = rw pow-suc at h in
        rw digit-suc (go n (m / 2) v (omega arith) (omega arith))

pub bit-zero : (v : ℕ) → bit 0 v ≡ false
bit-zero v = bit_high 0 0 v (omega arith) (omega arith)

-- the lowest bit, and the others
pub bit-low : (m : ℕ) → bit m 0 ≡ eqb (m % 2) 1
bit-low m = bit-of-digit m 0 ∙ ap (λ x. eqb x 1) (digit-zero m)

pub bit-suc : (m v : ℕ) → bit m (suc v) ≡ bit (m / 2) v
bit-suc m v = digit-bit m (m / 2) (suc v) v (digit-suc m v)

-- ---- one power of two more, at a bit that is clear; one less, at a bit that is set

pub add_same : (m v : ℕ) → bit m v ≡ false → bit (m + 2 ^ v) v ≡ true
add_same m v e = bit-true (m + 2 ^ v) v (digit-add-same v m (digit-nought m v e))

pub add-other : (m v w : ℕ) → bit m v ≡ false → w ≢ v → bit (m + 2 ^ v) w ≡ bit m w
add-other m v w e k = digit-bit (m + 2 ^ v) m w w (digit-add-other v m w (digit-nought m v e) k)

pub sub_same : (m v : ℕ) → bit m v ≡ true → bit (m - 2 ^ v) v ≡ false
sub_same m v e = bit-false (m - 2 ^ v) v (digit-sub-same v m (digit-one m v e))

pub bit_le : (m v : ℕ) → bit m v ≡ true → 2 ^ v ≤ m
bit_le m v e = digit-le v m (digit-one m v e)

pub add-lt : (n m v : ℕ) → m < 2 ^ n → v < n → bit m v ≡ false → m + 2 ^ v < 2 ^ n
add-lt n m v h l e = digit-add-lt v n m l h (digit-nought m v e)

-- ---- or, and

digit_or : (a b v : ℕ) → digit (bit_or a b) v ≡ max (digit a v) (digit b v)
unfolding digit
digit_or a b v = rw (or_shr a b v, or_step (a / 2 ^ v) (b / 2 ^ v)) (omega arith)

digit_and : (a b v : ℕ) → digit (bit_and a b) v ≡ min (digit a v) (digit b v)
unfolding digit
digit_and a b v = rw (and_shr a b v, and_step (a / 2 ^ v) (b / 2 ^ v)) (omega arith)

pub bit-or : (a b v : ℕ) → bit (bit_or a b) v ≡ (bit a v || bit b v)
bit-or a b v =
    bit-of-digit (bit_or a b) v ∙ ap (λ x. eqb x 1) (digit_or a b v)
    ∙ by_digits (λ i j x y. eqb (max i j) 1 ≡ (x || y)) refl refl refl refl a b v

pub bit-and : (a b v : ℕ) → bit (bit_and a b) v ≡ (bit a v && bit b v)
bit-and a b v =
    bit-of-digit (bit_and a b) v ∙ ap (λ x. eqb x 1) (digit_and a b v)
    ∙ by_digits (λ i j x y. eqb (min i j) 1 ≡ (x && y)) refl refl refl refl a b v

-- ---- the first j bits from one number, the others from another

twice : (j q : ℕ) → 2 ^ suc j * q ≡ 2 ^ j * q * 2
twice j q = ap (λ x. x * q) (pow-suc 2 j) ∙ mul_assoc (2 ^ j) 2 q ∙ ap (λ x. 2 ^ j * x) (mul_comm 2 q) ∙ sym (mul_assoc (2 ^ j) q 2)

mix-digit : (j a q v : ℕ) → a < 2 ^ j → v < j → digit (a + 2 ^ j * q) v ≡ digit a v
mix-digit zero a q v h l = absurd (omega arith)
mix-digit (suc j) a q zero h l = rw (digit-zero (a + 2 ^ suc j * q), digit-zero a, twice) (omega arith)
mix-digit (suc j) a q (suc v) h l =
    let h' : a < 2 ^ j * 2 = rw pow-suc at h in
    let e : (a + 2 ^ suc j * q) / 2 ≡ a / 2 + 2 ^ j * q = rw twice (omega arith) in
    rw (digit-suc (a + 2 ^ suc j * q) v, digit-suc a v, e) (mix-digit j (a / 2) q v (omega arith) (omega arith))

pub mix-low : (j a q v : ℕ) → a < 2 ^ j → v < j → bit (a + 2 ^ j * q) v ≡ bit a v
mix-low j a q v h l = digit-bit (a + 2 ^ j * q) a v v (mix-digit j a q v h l)

pub mix-high : (j a q i : ℕ) → a < 2 ^ j → bit (a + 2 ^ j * q) (j + i) ≡ bit q i
unfolding bit
mix-high j a q i h =
    let e : a + 2 ^ j * q ≡ q * 2 ^ j + a = add_comm a (2 ^ j * q) ∙ ap (λ x. x + a) (mul_comm (2 ^ j) q) in
    rw (← shr-shr (a + 2 ^ j * q) j i, e, high q j h)

pub bit-shift : (m j i : ℕ) → bit (m / 2 ^ j) i ≡ bit m (j + i)
unfolding bit
bit-shift m j i = rw (shr-shr m j i)

-- the bits of m from j on
pub mix-rest : (j a m v : ℕ) → a < 2 ^ j → j ≤ v → bit (a + 2 ^ j * (m / 2 ^ j)) v ≡ bit m v
mix-rest j a m v h l =
    let e : v ≡ j + (v - j) = omega arith in
    rw e (mix-high j a (m / 2 ^ j) (v - j) h ∙ bit-shift m j (v - j))

-- ---- the complement

digit-comp : (n S v : ℕ) → S < 2 ^ n → v < n → digit (2 ^ n - 1 - S) v + digit S v ≡ 1
digit-comp zero S v h l = absurd (omega arith)
digit-comp (suc n) S zero h l =
    let h' : S < 2 ^ n * 2 = rw pow-suc at h in
    rw (digit-zero (2 ^ suc n - 1 - S), digit-zero S, pow-suc) (omega arith)
digit-comp (suc n) S (suc v) h l =
    let h' : S < 2 ^ n * 2 = rw pow-suc at h in
    let e : (2 ^ suc n - 1 - S) / 2 ≡ 2 ^ n - 1 - S / 2 = rw pow-suc (omega arith) in
    rw (digit-suc (2 ^ suc n - 1 - S) v, digit-suc S v, e) (digit-comp n (S / 2) v (omega arith) (omega arith))

pub comp-bit : (n S v : ℕ) → S < 2 ^ n → v < n → bit (2 ^ n - 1 - S) v ≡ not (bit S v)
comp-bit n S v h l =
    by-digit (λ i x. digit (2 ^ n - 1 - S) v + i ≡ 1 → bit (2 ^ n - 1 - S) v ≡ not x) (λ e. bit-false _ v (omega arith)) (λ e. bit-true _ v (omega arith)) S v
    (digit-comp n S v h l)

-- ---- members, as tests

-- a number fits in as many bits
pub number_lt : (m : ℕ) → m < 2 ^ m
number_lt zero = omega arith
number_lt (suc m) = rw pow-suc (omega (arith, number_lt m))

pub same-members : (a b : ℕ) → ((v : ℕ) → T (bit a v) ↔ T (bit b v)) → a ≡ b
same-members a b h = bit-ext (a + b) a b (below a (omega arith)) (below b (omega arith)) (λ v _. iff-eq (bit a v) (bit b v) (h v))
  where
    below : (m : ℕ) → m ≤ a + b → m < 2 ^ (a + b)
    below m l = omega (arith, number_lt m, pow_mono l)

-- all below n
pub full-bit : (n v : ℕ) → v < n → bit (2 ^ n - 1) v ≡ true
full-bit n v l = ap (λ m. bit m v) (omega arith) ∙ comp-bit n 0 v (pow_pos n) l ∙ ap not (bit-zero v)

-- a member of a set of n
pub bit-lt : (n m v : ℕ) → m < 2 ^ n → T (bit m v) → v < n
bit-lt n m v l t = go (dec_lt v n)
  where
    go : Dec (v < n) → v < n
    go (yes k) = k
    go (no k) =
        let k' : ¬ (v < n) = k in
        absurd (subst T (bit_high n m v l (omega arith)) t)

-- a set with no member
pub no_member : (n m : ℕ) → m < 2 ^ n → ((v : ℕ) → v < n → T (bit m v) → ⊥) → m ≡ 0
no_member n m l h = bit-ext n m 0 l (pow_pos n) (λ v k. T_false (bit m v) (h v k) ∙ sym (bit-zero v))

pub zero-member : (m v : ℕ) → m ≡ 0 → T (bit m v) → ⊥
zero-member m v e t = subst T (ap (λ x. bit x v) e ∙ bit-zero v) t

pub not-zero : (x : ℕ) → T (bit 0 x) → ⊥
not-zero x h = subst T (bit-zero x) h

-- ---- joining sets

pub or_assoc : (a b c : ℕ) → bit_or (bit_or a b) c ≡ bit_or a (bit_or b c)
or_assoc a b c = same-members (bit_or (bit_or a b) c) (bit_or a (bit_or b c)) (λ v. (subst T (bits v), subst T (sym (bits v))))
  where
    bits : (v : ℕ) → bit (bit_or (bit_or a b) c) v ≡ bit (bit_or a (bit_or b c)) v
    bits v = rw (bit-or (bit_or a b) c v, bit-or a b v, bit-or a (bit_or b c) v, bit-or b c v) (test-assoc (bit a v) (bit b v) (bit c v))
