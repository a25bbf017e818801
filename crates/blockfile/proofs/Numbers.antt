-- Numbers as bytes, low byte first: how many bytes, which byte stands where, and that bytes and numbers undo each other. Over the width, by induction
-- on it. Assumes nothing.
use mathlib.Core.Path.{◌≡◌, refl, sym, ap, ◌∙◌, subst}
use mathlib.Core.List.{List, [], ◌∷◌, ◌++◌, append_assoc}
use Prim.Native.Nat.{ℕ, zero, suc, ◌+◌, ◌*◌, ◌/◌, ◌%◌, ◌^◌, ◌≤◌, ◌<◌}
use native.Mathlib.Nat.{pow-suc, mul-zero, mul-suc, lt_of_lt_of_le, pow-le-pow_right}
use native.Mathlib.Omega.{arith}
use lib.Dec.{lit<}
use lib.ListN.{length, get_or, take, drop, length-append, length-take, length-drop}
use lib.Seq.{drop-drop, drop-append-add, take_at, drop_at, take-add, get_or-drop, length-take-le}
use Rattle.blockfile.specs.Layout.{bytes, value, spelled, numbers, heading}

-- ---- one number

pub bytes-length : (k x : ℕ) → length (bytes k x) ≡ k
unfolding bytes
bytes-length zero x = refl
bytes-length (suc k) x = ap suc (bytes-length k (x / 256))

pub heading-length : (n : ℕ) → length (heading n) ≡ 6
unfolding bytes
heading-length n = refl

-- each is a byte
abbrev pub Octets : List ℕ → Type 0
Octets bs = (i : ℕ) → get_or bs i 0 < 256

pub value-bytes : (k x : ℕ) → x < 256 ^ k → value (bytes k x) ≡ x
unfolding bytes value
value-bytes zero x l = omega arith
value-bytes (suc k) x l =
    let m : x < 256 ^ k * 256 = rw pow-suc at l in
    let ih : value (bytes k (x / 256)) ≡ x / 256 = value-bytes k (x / 256) (omega arith) in
    rw ih (omega arith)

pub bytes-value : (bs : List ℕ) → Octets bs → bytes (length bs) (value bs) ≡ bs
unfolding bytes value
bytes-value [] o = refl
bytes-value (b ∷ bs) o =
    let low : (b + 256 * value bs) % 256 ≡ b = omega (arith, o 0) in
    let high : (b + 256 * value bs) / 256 ≡ value bs = omega (arith, o 0) in
    rw (low, high) (ap (λ (l : List ℕ). b ∷ l) (bytes-value bs (λ i. o (suc i))))

pub value-lt : (bs : List ℕ) → Octets bs → value bs < 256 ^ length bs
unfolding value
value-lt [] o = omega arith
value-lt (b ∷ bs) o =
    let ih : value bs < 256 ^ length bs = value-lt bs (λ i. o (suc i)) in
    rw pow-suc (omega (arith, o 0))

-- ---- numbers one after the other

pub numbers-length : (k m : ℕ) (bs : List ℕ) → length (numbers k m bs) ≡ m
unfolding numbers
numbers-length k zero bs = refl
numbers-length k (suc m) bs = ap suc (numbers-length k m (drop k bs))

pub numbers-at : (k m : ℕ) (bs : List ℕ) (v : ℕ) → v < m → get_or (numbers k m bs) v 0 ≡ value (take k (drop (k * v) bs))
unfolding numbers
numbers-at k zero bs v l = absurd (omega arith)
numbers-at k (suc m) bs zero l = rw mul-zero
numbers-at k (suc m) bs (suc v) l =
    let e : k + k * v ≡ k * suc v = omega (arith, mul-suc k v) in
    numbers-at k m (drop k bs) v (omega arith) ∙ ap (λ (b : List ℕ). value (take k b)) (drop-drop (k * v) k bs ∙ ap (λ (i : ℕ). drop i bs) e)

pub spelled-length : (k : ℕ) (xs : List ℕ) → length (spelled k xs) ≡ k * length xs
unfolding spelled
spelled-length k [] = sym (mul-zero k)
spelled-length k (x ∷ xs) = length-append (bytes k x) (spelled k xs) ∙ omega (arith, bytes-length k x, spelled-length k xs, mul-suc k (length xs))

-- past the first of two lists
pub drop_past : (p q : List ℕ) (k m : ℕ) → length p ≡ k → drop (k + m) (p ++ q) ≡ drop m q
drop_past p q k m e = ap (λ (i : ℕ). drop (i + m) (p ++ q)) (sym e) ∙ drop-append-add p q m

-- the bytes of the number at v
pub spelled_at : (k : ℕ) (xs : List ℕ) (v : ℕ) → v < length xs → take k (drop (k * v) (spelled k xs)) ≡ bytes k (get_or xs v 0)
unfolding spelled
spelled_at k [] v l = absurd (omega arith)
spelled_at k (x ∷ xs) zero l = rw mul-zero (take_at (bytes k x) (spelled k xs) k (bytes-length k x))
spelled_at k (x ∷ xs) (suc v) l =
    let e : k * suc v ≡ k + k * v = omega (arith, mul-suc k v) in
    ap (λ (i : ℕ). take k (drop i (bytes k x ++ spelled k xs))) e
    ∙ ap (take k) (drop_past (bytes k x) (spelled k xs) k (k * v) (bytes-length k x))
    ∙ spelled_at k xs v (omega arith)

-- ---- numbers and bytes undo each other

pub numbers-spelled : (k : ℕ) (xs rest : List ℕ) → ((v : ℕ) → get_or xs v 0 < 256 ^ k) → numbers k (length xs) (spelled k xs ++ rest) ≡ xs
unfolding numbers spelled
numbers-spelled k [] rest h = refl
numbers-spelled k (x ∷ xs) rest h =
    let e : (bytes k x ++ spelled k xs) ++ rest ≡ bytes k x ++ (spelled k xs ++ rest) = append_assoc (bytes k x) (spelled k xs) rest in
    let f : value (take k (bytes k x ++ (spelled k xs ++ rest))) ≡ x =
    ap value (take_at (bytes k x) (spelled k xs ++ rest) k (bytes-length k x)) ∙ value-bytes k x (h 0) in
    let g : drop k (bytes k x ++ (spelled k xs ++ rest)) ≡ spelled k xs ++ rest = drop_at (bytes k x) (spelled k xs ++ rest) k (bytes-length k x) in
    rw (e, f, g) (ap (λ (l : List ℕ). x ∷ l) (numbers-spelled k xs rest (λ v. h (suc v))))

pub octets-drop : (k : ℕ) (bs : List ℕ) → Octets bs → Octets (drop k bs)
octets-drop k bs o i = subst (λ (x : ℕ). x < 256) (sym (get_or-drop k bs i 0)) (o (k + i))

pub octets-take : (k : ℕ) (bs : List ℕ) → Octets bs → Octets (take k bs)
octets-take zero bs o i = omega arith
octets-take (suc k) [] o i = o i
octets-take (suc k) (b ∷ bs) o zero = o 0
octets-take (suc k) (b ∷ bs) o (suc i) = octets-take k bs (λ j. o (suc j)) i

-- the first k bytes are those of their number
pub bytes-part : (k : ℕ) (bs : List ℕ) → Octets bs → k ≤ length bs → bytes k (value (take k bs)) ≡ take k bs
bytes-part k bs o l =
    ap (λ (i : ℕ). bytes i (value (take k bs))) (sym (length-take-le k bs l)) ∙ bytes-value (take k bs) (octets-take k bs o)

pub part-lt : (k : ℕ) (bs : List ℕ) → Octets bs → value (take k bs) < 256 ^ k
part-lt k bs o = lt_of_lt_of_le (value-lt (take k bs) (octets-take k bs o)) (pow-le-pow_right (lit< tt) (rw length-take (omega arith)))

-- each number that was read fits its width
pub numbers-lt : (k m : ℕ) (bs : List ℕ) → Octets bs → (v : ℕ) → get_or (numbers k m bs) v 0 < 256 ^ k
unfolding numbers
numbers-lt k zero bs o v = pow-le-pow_right (lit< tt) {i = 0} (omega arith)
numbers-lt k (suc m) bs o zero = part-lt k bs o
numbers-lt k (suc m) bs o (suc v) = numbers-lt k m (drop k bs) (octets-drop k bs o) v

pub spelled-numbers : (k m : ℕ) (bs : List ℕ) → Octets bs → k * m ≤ length bs → spelled k (numbers k m bs) ≡ take (k * m) bs
unfolding numbers spelled
spelled-numbers k zero bs o l = rw mul-zero
spelled-numbers k (suc m) bs o l =
    let e : k * suc m ≡ k + k * m = omega (arith, mul-suc k m) in
    let g : k * m ≤ length (drop k bs) = rw length-drop (omega arith) in
    rw (e, take-add k (k * m) bs, bytes-part k bs o (omega arith), spelled-numbers k m (drop k bs) (octets-drop k bs o) g)
