-- Lists that are filled from the front, as the loops of the reader and the writer do: one element a turn, or k bytes a turn. Assumes nothing.
use mathlib.Core.Path.{◌≡◌, sym, ap, ap₂, ◌∙◌}
use mathlib.Core.List.{List, ◌++◌}
use Prim.Native.Nat.{ℕ, suc, ◌+◌, ◌≤◌, ◌<◌}
use native.Mathlib.Numerals.{add-one}
use native.Mathlib.Omega.{arith}
use lib.ListN.{length, get_or, take, drop, set, length-append, length-drop}
use lib.Seq.{paste, take_at, set_at, drop-cons, drop-drop, take-add, take-suc, take-take, take_all, append_snoc, length-take-le}
use Rattle.blockfile.proofs.Numbers.{drop_past}

-- d with the first i of s in its first places
abbrev pub filling : List ℕ → List ℕ → ℕ → List ℕ
filling d s i = take i s ++ drop i d

-- one element more
pub filling-more : (d s : List ℕ) (i : ℕ) → i < length d → i < length s → set (filling d s i) i (get_or s i 0) ≡ filling d s (i + 1)
filling-more d s i hd hs =
    rw add-one
    (ap (λ (l : List ℕ). set (take i s ++ l) i (get_or s i 0)) (drop-cons d i 0 hd)
    ∙ set_at (take i s) (get_or d i 0) (drop (suc i) d) (get_or s i 0) i (length-take-le i s (omega arith))
    ∙ sym (append_snoc (take i s) (get_or s i 0) (drop (suc i) d))
    ∙ ap (λ (l : List ℕ). l ++ drop (suc i) d) (sym (take-suc s i 0 hs)))

-- all of s
pub filling-all : (d s : List ℕ) (i : ℕ) → length s ≡ i → filling d s i ≡ s ++ drop i d
filling-all d s i e = ap (λ (l : List ℕ). l ++ drop i d) (take_all i s (omega (arith, e)))

-- a part of k elements more, pasted behind the first a
pub filling-part : (d s b : List ℕ) (a k : ℕ) → a + k ≤ length d → a + k ≤ length s → take k (drop a s) ≡ b → paste (filling d s a) a b k ≡ filling d s (a + k)
filling-part d s b a k hd hs e =
    let t : length (take a s) ≡ a = length-take-le a s (omega arith) in
    let u : take k b ≡ take k (drop a s) = ap (take k) (sym e) ∙ take-take k k (drop a s) (omega arith) in
    let w : drop (a + k) (take a s ++ drop a d) ≡ drop (a + k) d = drop_past (take a s) (drop a d) a k t ∙ drop-drop k a d in
    ap₂ (λ (l m : List ℕ). (l ++ m) ++ drop (a + k) (take a s ++ drop a d)) (take_at (take a s) (drop a d) a t) u
    ∙ ap₂ ◌++◌ (sym (take-add a k s)) w

-- ---- what a loop that fills knows: i of the n elements of s stand in l, which was d

pub record Filled (d s : List ℕ) (n i : ℕ) (l : List ℕ) : Type 0 where
  pub inner : i ≤ n
  pub list : l ≡ filling d s i

pub filled_more : (d s l : List ℕ) (n i x : ℕ) → length s ≡ n → n ≤ length d → i < n → x ≡ get_or s i 0 → Filled d s n i l → Filled d s n (i + 1) (set l i x)
filled_more d s l n i x e h k y f =
    record {
      inner = omega arith;
      list = ap₂ (λ (m : List ℕ) (z : ℕ). set m i z) f.list y ∙ filling-more d s i (omega arith) (omega (arith, e));
    }

pub filled-length : {d s l : List ℕ} {n i : ℕ} → length s ≡ n → n ≤ length d → Filled d s n i l → length l ≡ length d
filled-length {d} {s} {l} {n} {i} e h f =
    ap length f.list ∙ length-append (take i s) (drop i d)
    ∙ omega (arith, length-take-le i s (omega (arith, e, f.inner)), length-drop i d, f.inner)

pub filled-all : {d s l : List ℕ} {n i : ℕ} → length s ≡ n → n ≤ i → Filled d s n i l → l ≡ s ++ drop n d
filled-all {d} {s} {l} {n} {i} e h f =
    let q : i ≡ n = omega (arith, f.inner) in
    f.list ∙ ap (filling d s) q ∙ filling-all d s n e
