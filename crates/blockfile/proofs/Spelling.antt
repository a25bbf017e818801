-- A list that is filled from the front with numbers of k bytes each, one number a turn. Over the width. Assumes nothing.
use mathlib.Core.Path.{◌≡◌, sym, ap, ap₂, ◌∙◌}
use mathlib.Core.List.{List, ◌++◌, append-nil}
use Prim.Native.Nat.{ℕ, suc, ◌+◌, ◌*◌, ◌≤◌, ◌<◌}
use native.Mathlib.Nat.{mul-suc, mul-le-mul_left}
use native.Mathlib.Numerals.{add-one}
use native.Mathlib.Omega.{arith}
use lib.ListN.{length, get_or, take, drop, drop_of_length-le}
use lib.Seq.{paste, take_all}
use Rattle.blockfile.specs.Layout.{bytes, spelled}
use Rattle.blockfile.proofs.Numbers.{spelled-length, spelled_at}
use Rattle.blockfile.proofs.Fills.{filling, filling-part}

-- i of the numbers xs stand in l, which was d
pub record Spelt (k : ℕ) (d xs : List ℕ) (i : ℕ) (l : List ℕ) : Type 0 where
  pub inner : i ≤ length xs
  pub list : l ≡ filling d (spelled k xs) (k * i)

pub spelt-more : (k : ℕ) (d xs l l' : List ℕ) (i x : ℕ) → length d ≡ k * length xs → i < length xs → x ≡ get_or xs i 0 → Spelt k d xs i l
    → l' ≡ paste l (k * i) (bytes k x) k → Spelt k d xs (i + 1) l'
spelt-more k d xs l l' i x e h y s p =
    let m : k * suc i ≤ k * length xs = mul-le-mul_left k h in
    let q : k * i + k ≡ k * suc i = omega (arith, mul-suc k i) in
    let b : take k (drop (k * i) (spelled k xs)) ≡ bytes k x = spelled_at k xs i h ∙ ap (bytes k) (sym y) in
    record {
      inner = omega arith;
      list =
          p
          ∙ ap (λ (z : List ℕ). paste z (k * i) (bytes k x) k) s.list
          ∙ filling-part d (spelled k xs) (bytes k x) (k * i) k (omega arith) (omega (arith, spelled-length k xs)) b
          ∙ ap (filling d (spelled k xs)) (q ∙ ap (λ (j : ℕ). k * j) (sym (add-one i)));
    }

pub spelt-all : (k : ℕ) {d xs l : List ℕ} {i : ℕ} → length d ≡ k * length xs → length xs ≤ i → Spelt k d xs i l → l ≡ spelled k xs
spelt-all k {d} {xs} {l} {i} e h s =
    let j : i ≡ length xs = omega (arith, s.inner) in
    let q : k * i ≡ length (spelled k xs) = ap (λ (z : ℕ). k * z) j ∙ sym (spelled-length k xs) in
    s.list
    ∙ ap₂ ◌++◌ (take_all (k * i) (spelled k xs) (omega arith)) (drop_of_length-le d {i = k * i} (omega (arith, spelled-length k xs)))
    ∙ append-nil (spelled k xs)
