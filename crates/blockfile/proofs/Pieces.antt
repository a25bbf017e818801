-- A list whose parts were lent and came back, one after the other. Assumes nothing.
use mathlib.Core.Path.{◌≡◌, sym, ap, ap₂, ◌∙◌}
use mathlib.Core.List.{List, ◌++◌, append_assoc}
use Prim.Native.Nat.{ℕ, ◌+◌, ◌-◌, ◌*◌, ◌≤◌}
use native.Mathlib.Omega.{arith}
use borrow.Rule.Slice.PartMut.{put_mid}
use lib.ListN.{length, drop, length-append}
use lib.Seq.{take_at, drop_at, drop-drop}
use Rattle.blockfile.specs.Layout.{heading, spelled, layout}
use Rattle.blockfile.proofs.Numbers.{heading-length, spelled-length}

-- p stands in the first a places of xs, and ys is put behind it, up to e
pub put_next : (p xs ys : List ℕ) (a e : ℕ) → length p ≡ a → a ≤ e → put_mid a (e - a) (p ++ drop a xs) ys ≡ (p ++ ys) ++ drop e xs
put_next p xs ys a e l h =
    let k : a + (e - a) ≡ e = omega arith in
    let after : drop (e - a) (drop a (p ++ drop a xs)) ≡ drop e xs =
    ap (drop (e - a)) (drop_at p (drop a xs) a l) ∙ drop-drop (e - a) a xs ∙ ap (λ (j : ℕ). drop j xs) k in
    ap₂ (λ (b t : List ℕ). b ++ (ys ++ t)) (take_at p (drop a xs) a l) after ∙ sym (append_assoc p ys (drop e xs))

-- three pieces
pub put-pieces : (out h c r : List ℕ) (a e : ℕ) → length h ≡ 6 → length c + 6 ≡ a → length r + a ≡ e
    → put_mid a (e - a) (put_mid 6 (a - 6) (h ++ drop 6 out) c) r ≡ (h ++ c ++ r) ++ drop e out
put-pieces out h c r a e lh lc lr =
    let l : length (h ++ c) ≡ a = length-append h c ∙ omega arith in
    ap (λ (l : List ℕ). put_mid a (e - a) l r) (put_next h out c 6 a lh (omega arith)) ∙ put_next (h ++ c) out r a e l (omega arith)

-- heading, costs and rows make up the layout
pub put-layout : (out rows costs h c r : List ℕ) → length costs ≡ length rows → h ≡ heading (length rows) → c ≡ spelled 4 costs → r ≡ spelled 8 rows
    → let a = 6 + 4 * length rows in let e = a + 8 * length rows in put_mid a (e - a) (put_mid 6 (a - 6) (h ++ drop 6 out) c) r ≡ layout costs rows ++ drop e out
put-layout out rows costs h c r q eh ec er =
    let a : ℕ = 6 + 4 * length rows in
    let e : ℕ = a + 8 * length rows in
    put-pieces out h c r a e
    (ap length eh ∙ heading-length (length rows))
    (omega (arith, ap length ec, spelled-length 4 costs))
    (omega (arith, ap length er, spelled-length 8 rows))
    ∙ ap (λ (l : List ℕ). l ++ drop e out) (ap₂ ◌++◌ (ap₂ ◌++◌ eh ec) er)
