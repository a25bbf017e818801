-- Who reaches whom, computed in place: the rows with self edges dropped, each row that holds k with row k taken in, one after the other, and what the rows are
-- after those below k were taken in. Rows past the last are 0. Assumes nothing.
use mathlib.Core.Path.{◌≡◌, refl, sym, ap, ap₂, ◌∙◌, subst}
use mathlib.Core.Logic.{◌↔◌}
use mathlib.Core.Bool.{Bool, true, false}
use mathlib.Core.List.{List, ◌++◌}
use Prim.Native.Nat.{ℕ, suc, ◌+◌, ◌-◌, ◌≤◌, ◌<◌}
use native.Mathlib.Decide.{dec_lt}
use native.Mathlib.Omega.{arith}
use native.Mathlib.Numerals.{add-one}
use lib.Bits.{bit_or, or_zero_r}
use lib.Dec.{T}
use lib.ListN.{length, get_or, set, drop, replicate, length-append, length-replicate, get_or-append, get_or-eq_default}
use lib.Seq.{ext_get_or, get_or-append_right}
use Rattle.std.proofs.lemmas.List.{drop-replicate}
use Rattle.masks.specs.Sets.{bit, cut, pick}
use Rattle.masks.proofs.Bits.{bit-zero}
use Rattle.graphs.specs.Graph.{edge, plain, Walk}
use Rattle.graphs.specs.Components.{every}
use Rattle.graphs.specs.Work.{taken_in, Reaching}
use Rattle.graphs.proofs.Lists.{all_alike}
use Rattle.graphs.proofs.Loops.{plain_row, plain-length}
use Rattle.graphs.proofs.Reach.{through-row, closure, closure-length, edge-reaches}
use Rattle.graphs.proofs.Turns.{Rowed, rowed-set, rowed-skip, rowed-all}

-- the rows of an empty array
abbrev pub zeros : ℕ → List ℕ
zeros k = replicate k 0

-- ---- the rows with self edges dropped

-- row v is r
abbrev pub Plain : List ℕ → ℕ → ℕ → Type 0
Plain rows v r = r ≡ get_or (plain rows) v 0

pub plain_at : (rows : List ℕ) (v m x : ℕ) → m ≡ get_or rows v 0 → x ≡ cut m v → Plain rows v x
plain_at rows v m x p q = q ∙ ap₂ cut p (omega arith) ∙ sym (plain_row 0 rows v)

pub plain-all : (rows outs found : List ℕ) (v : ℕ) → length outs ≡ length rows → length rows ≤ v → Rowed (Plain rows) outs v found → found ≡ plain rows
plain-all rows outs found v e l r =
    ext_get_or 0 found (plain rows) (r.long ∙ e ∙ sym (plain-length 0 rows)) (λ u k. r.done u (omega (arith, r.long, e)))

-- ---- one flip-flop taken in

-- row u, with row k taken in where it held k, is r
abbrev pub TakenIn : ℕ → List ℕ → ℕ → ℕ → Type 0
TakenIn k old u r = r ≡ taken_in k old u

module _ (k : ℕ) (old : List ℕ) (u : ℕ) (rows next : List ℕ) (own taken : ℕ) (is_own : own ≡ get_or rows u 0) (is_taken : taken ≡ get_or old k 0)
    (r : Rowed (TakenIn k old) old u rows) where
  was : get_or old u 0 ≡ own
  was = sym (is_own ∙ r.rest u (omega arith))

  pub taken_yes : (x : ℕ) → u < length old → bit own k ≡ true → x ≡ bit_or own taken → next ≡ set rows u x → Rowed (TakenIn k old) old (u + 1) next
  taken_yes x l t q e = rowed-set (TakenIn k old) old u rows next x l is e r
    where
      is : x ≡ taken_in k old u
      is = rw (was, t) (q ∙ ap (bit_or own) is_taken)

  pub taken-no : bit own k ≡ false → next ≡ rows → Rowed (TakenIn k old) old (u + 1) next
  taken-no t e = subst (Rowed (TakenIn k old) old (u + 1)) (sym e) (rowed-skip (TakenIn k old) old u (u + 1) rows (omega arith) same r)
    where
      here : get_or old u 0 ≡ taken_in k old u
      here = rw (was, t)

      same : (w : ℕ) → u ≤ w → w < u + 1 → get_or old w 0 ≡ taken_in k old w
      same w i j = subst (λ z. get_or old z 0 ≡ taken_in k old z) (omega arith) here

-- a row that is 0 stays
taken_none : (k : ℕ) (old : List ℕ) (u : ℕ) → get_or old u 0 ≡ 0 → taken_in k old u ≡ 0
taken_none k old u e = rw (e, bit-zero k)

pub taken-all : (k n u : ℕ) (old rows : List ℕ) → ((w : ℕ) → n ≤ w → get_or old w 0 ≡ 0) → n ≤ u → Rowed (TakenIn k old) old u rows
    → (w : ℕ) → TakenIn k old w (get_or rows w 0)
taken-all k n u old rows none l r =
    rowed-all (TakenIn k old) old u rows (λ w i. none w (omega arith) ∙ sym (taken_none k old w (none w (omega arith)))) r

-- an empty row adds nothing
pub taken-idle : (k : ℕ) (rows : List ℕ) → get_or rows k 0 ≡ 0 → (u : ℕ) → get_or rows u 0 ≡ taken_in k rows u
taken-idle k rows e u = rw e (go (bit (get_or rows u 0) k))
  where
    go : (x : Bool) → get_or rows u 0 ≡ pick x (bit_or (get_or rows u 0) 0) (get_or rows u 0)
    go true = sym (or_zero_r (get_or rows u 0))
    go false = refl

-- ---- all of them

-- the rows after those below k were taken in
pub record Closing (rows : List ℕ) (k : ℕ) (reached : List ℕ) : Type 0 where
  pub inner : k ≤ length rows
  pub long : length reached ≡ 64
  pub same : (u : ℕ) → get_or reached u 0 ≡ get_or (closure k (plain rows)) u 0

-- the rows with self edges dropped, and 0s behind them
pub closing-none : (rows found : List ℕ) → length rows ≤ 64 → found ≡ plain rows → Closing rows 0 (found ++ drop (length rows) (zeros 64))
unfolding closure
closing-none rows found few e = record { inner = omega arith; long = long; same = λ u. rw e (same u (dec_lt u (length rows))) }
  where
    long : length (found ++ drop (length rows) (zeros 64)) ≡ 64
    long = rw (e, length-append, plain-length, drop-replicate, length-replicate) (omega (arith, few))

    same : (u : ℕ) → Dec (u < length rows) → get_or (plain rows ++ drop (length rows) (zeros 64)) u 0 ≡ get_or (plain rows) u 0
    same u (yes l) = get_or-append (plain rows) (drop (length rows) (zeros 64)) 0 u (rw plain-length l)
    same u (no k) =
        let k' : ¬ (u < length rows) = k in
        let l : length (plain rows) ≤ u = rw plain-length (omega arith) in
        rw drop-replicate
        (get_or-append_right (plain rows) (zeros (64 - length rows)) u 0 l ∙ all_alike 0 (64 - length rows) (u - length (plain rows)) ∙ sym (get_or-eq_default (plain rows) 0 l))

pub closing-past : (rows : List ℕ) (k : ℕ) (reached : List ℕ) → Closing rows k reached → (u : ℕ) → length rows ≤ u → get_or reached u 0 ≡ 0
closing-past rows k reached c u l =
    c.same u ∙ get_or-eq_default (closure k (plain rows)) 0 (omega (arith, closure-length k (plain rows), plain-length 0 rows))

pub closing-more : (rows : List ℕ) (k : ℕ) (reached next : List ℕ) → k < length rows → length next ≡ length reached
    → ((u : ℕ) → get_or next u 0 ≡ taken_in k reached u) → Closing rows k reached → Closing rows (k + 1) next
unfolding closure
closing-more rows k reached next l m h c =
    record { inner = omega arith; long = m ∙ c.long; same = λ u. subst (λ j. get_or next u 0 ≡ get_or (closure j (plain rows)) u 0) (sym (add-one k)) (at u) }
  where
    at : (u : ℕ) → get_or next u 0 ≡ get_or (closure (suc k) (plain rows)) u 0
    at u = h u ∙ rw (c.same u, c.same k) (sym (through-row k (closure k (plain rows)) u))

pub closing-all : (rows : List ℕ) (k : ℕ) (reached : List ℕ) → length rows ≤ k → Closing rows k reached → Reaching (edge rows) reached
closing-all rows k reached l c u w =
    let e : k ≡ length rows = omega (arith, c.inner) in
    subst (λ r. T (bit r w) ↔ Walk (edge rows) every u w) (sym (c.same u ∙ ap (λ j. get_or (closure j (plain rows)) u 0) e)) (edge-reaches rows u w)
