-- A number's bytes as std has them, and as the layout has them. Assumes nothing.
use mathlib.Core.Path.{◌≡◌, refl, sym, ap, ap₂, ◌∙◌, subst}
use mathlib.Core.List.{List, [], ◌∷◌, ◌++◌}
use Prim.Native.Nat.{ℕ, zero, suc, ◌+◌, ◌-◌, ◌*◌, ◌/◌, ◌%◌, ◌^◌, ◌≤◌, ◌<◌, min}
use native.Mathlib.Nat.{pow-suc, div-one, div-div-eq-div-mul, div-lt_iff_lt-mul}
use native.Mathlib.Omega.{arith}
use borrow.Rule.Slice.PartMut.{put_mid}
use lib.ListN.{length, take, drop, replicate, length-append, length-drop, length-replicate}
use lib.Seq.{paste, length-take-le}
use Rattle.std.proofs.lemmas.List.Edits.{length-paste, paste-paste}
use Rattle.std.proofs.lemmas.Slice.{put_mid-paste}
use Rattle.std.specs.Int.{w64, byte_at, bytes_low_first, from_le_bytes, to_le_bytes}
use Rattle.blockfile.specs.Layout.{bytes, value}

-- ---- writing

pub take-bytes : (w k x : ℕ) → w ≤ k → take w (bytes k x) ≡ bytes w x
unfolding bytes
take-bytes zero k x l = refl
take-bytes (suc w) zero x l = absurd (omega arith)
take-bytes (suc w) (suc k) x l = ap (λ (bs : List ℕ). x % 256 ∷ bs) (take-bytes w k (x / 256) (omega arith))

low-first : (k i n : ℕ) → bytes_low_first i k n ≡ bytes k (n / 256 ^ i)
unfolding bytes
low-first zero i n = refl
low-first (suc k) i n =
    ap₂ ◌∷◌ (head i) (low-first k (suc i) n ∙ ap (bytes k) (ap (λ (d : ℕ). n / d) (pow-suc 256 i) ∙ sym (div-div-eq-div-mul n (256 ^ i) 256)))
  where
    head : (i : ℕ) → byte_at i n ≡ n / 256 ^ i % 256
    head zero = ap (λ (y : ℕ). y % 256) (sym (div-one n))
    head (suc i) = refl

pub to_bytes : (n : ℕ) → to_le_bytes w64 n ≡ bytes 8 n
to_bytes n = low-first 8 0 n ∙ ap (bytes 8) (div-one n)

bytes-zero : (k x : ℕ) → (0 < k → x < 1) → replicate k 0 ≡ bytes k x
unfolding bytes
bytes-zero zero x h = refl
bytes-zero (suc k) x h = let z : x < 1 = h (omega arith) in ap₂ ◌∷◌ (omega arith) (bytes-zero k (x / 256) (λ p. omega arith))

-- past the bytes that a number needs it has zeros
bytes-past : (m k x : ℕ) → (0 < k → x < 256 ^ m) → bytes m x ++ replicate k 0 ≡ bytes (m + k) x
unfolding bytes
bytes-past zero k x h = bytes-zero k x h ∙ ap (λ (j : ℕ). bytes j x) (omega arith)
bytes-past (suc m) k x h =
    let more : suc (m + k) ≡ suc m + k = omega arith in
    let less : 0 < k → x / 256 < 256 ^ m = λ p. (div-lt_iff_lt-mul (omega arith)).1 (subst (λ y. x < y) (pow-suc 256 m) (h p)) in
    ap (λ (bs : List ℕ). x % 256 ∷ bs) (bytes-past m k (x / 256) less) ∙ ap (λ (j : ℕ). bytes j x) more

-- so all of its eight bytes, and zeros behind them, are its bytes at any width
pub low-zeros : (w m n : ℕ) → m ≡ min w 8 → n < 2 ^ 64 → bytes m n ++ replicate (w - m) 0 ≡ bytes w n
low-zeros w m n e h =
    let k : m + (w - m) ≡ w = omega arith in
    bytes-past m (w - m) n (λ p. let f : 8 ≡ m = omega arith in subst (λ j. n < 256 ^ j) f h) ∙ ap (λ (j : ℕ). bytes j n) k

-- xs over the first m places of a part, then zeros over its others
pub put-zeros : (l xs zs : List ℕ) (at m w : ℕ) → at + w ≤ length l → m ≤ w → length xs ≡ m
    → let p = put_mid at (at + m - at) l xs in zs ≡ replicate (length (take (at + w - (at + m)) (drop (at + m) p))) 0
    → put_mid (at + m) (at + w - (at + m)) p zs ≡ paste l at (xs ++ replicate (w - m) 0) w
put-zeros l xs zs at m w h i e z =
    let p : List ℕ = put_mid at (at + m - at) l xs in
    let o : List ℕ = replicate (w - m) 0 in
    let q : p ≡ paste l at xs m = put_mid-paste at (at + m - at) l xs xs m refl (omega arith) (sym e) in
    let s : length p ≡ length l = ap length q ∙ length-paste l at xs m (omega arith) (omega arith) in
    let c : length (take (at + w - (at + m)) (drop (at + m) p)) ≡ w - m =
    length-take-le (at + w - (at + m)) (drop (at + m) p) (omega (arith, length-drop (at + m) p)) ∙ omega arith in
    let r : w - m ≡ length o = sym (length-replicate (w - m) 0) in
    put_mid-paste (at + m) (at + w - (at + m)) p zs o (w - m) (z ∙ ap (λ (j : ℕ). replicate j 0) c) (omega arith) r
    ∙ ap (λ (d : List ℕ). paste d (at + m) o (w - m)) q
    ∙ paste-paste l at xs o m (w - m) (sym e) r (omega arith)
    ∙ ap (paste l at (xs ++ o)) (omega arith)

-- ---- reading

value-zeros : (k : ℕ) → value (replicate k 0) ≡ 0
unfolding value
value-zeros zero = refl
value-zeros (suc k) = omega (arith, value-zeros k)

pub value-padded : (bs : List ℕ) (k : ℕ) → value (bs ++ replicate k 0) ≡ value bs
unfolding value
value-padded [] k = value-zeros k
value-padded (b ∷ bs) k = ap (λ (n : ℕ). b + 256 * n) (value-padded bs k)

pub from_bytes : (bs : List ℕ) → length bs ≡ 8 → from_le_bytes w64 bs ≡ value bs
unfolding value
from_bytes [] l = absurd (omega arith)
from_bytes (a ∷ []) l = absurd (omega arith)
from_bytes (a ∷ b ∷ []) l = absurd (omega arith)
from_bytes (a ∷ b ∷ c ∷ []) l = absurd (omega arith)
from_bytes (a ∷ b ∷ c ∷ d ∷ []) l = absurd (omega arith)
from_bytes (a ∷ b ∷ c ∷ d ∷ e ∷ []) l = absurd (omega arith)
from_bytes (a ∷ b ∷ c ∷ d ∷ e ∷ f ∷ []) l = absurd (omega arith)
from_bytes (a ∷ b ∷ c ∷ d ∷ e ∷ f ∷ g ∷ []) l = absurd (omega arith)
from_bytes (a ∷ b ∷ c ∷ d ∷ e ∷ f ∷ g ∷ h ∷ []) l = omega arith
from_bytes (a ∷ b ∷ c ∷ d ∷ e ∷ f ∷ g ∷ h ∷ i ∷ bs) l = absurd (omega arith)

pub number-of : (part padded : List ℕ) → length part ≤ 8 → padded ≡ part ++ replicate (8 - length part) 0 → from_le_bytes w64 padded ≡ value part
number-of part padded h e =
    let z : length (replicate {A = ℕ} (8 - length part) 0) ≡ 8 - length part = length-replicate (8 - length part) 0 in
    from_bytes padded (ap length e ∙ length-append part (replicate (8 - length part) 0) ∙ omega (arith, z))
    ∙ ap value e ∙ value-padded part (8 - length part)
