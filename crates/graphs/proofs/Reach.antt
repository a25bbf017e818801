-- Who reaches whom: the rows after each flip-flop in turn was taken as a stop on the way hold a bit exactly where a walk goes. Shown by induction on the
-- number of flip-flops taken, over walks whose inner ones are among them. Assumes nothing.
use mathlib.Core.Path.{◌≡◌, refl, sym, ap, ◌∙◌, subst}
use mathlib.Core.Logic.Iff
use mathlib.Core.Logic.{◌⊎◌, inl, inr, ⊎_elim, ◌↔◌}
use mathlib.Core.Bool.{Bool, true, false, ◌&&◌, ◌||◌, or-false}
use mathlib.Core.List.{List, map}
use Prim.Native.Nat.{ℕ, zero, suc, ◌<◌}
use native.Mathlib.Omega.{arith}
use native.Mathlib.Decide.{ℕ_discrete, map_dec}
use lib.Bits.{bit_or}
use lib.Dec.{T}
use lib.ListN.{length, get_or, length-map, get_or-map}
use Rattle.masks.specs.Sets.{bit, pick}
use Rattle.masks.proofs.Tests.{T_and, and_T, T-or, or_l, or_r, T?}
use Rattle.masks.proofs.Bits.{bit-or, bit-zero}
use Rattle.graphs.specs.Graph.{edge, plain, Walk, edge_to, step_to}
use Rattle.graphs.specs.Components.{every}
use Rattle.graphs.proofs.Walks.{source-lt, widen}
use Rattle.graphs.proofs.Loops.{row_from, edge-plain, plain-length}

-- the bit w of row u
abbrev pub arc : List ℕ → ℕ → ℕ → Bool
arc rows u w = bit (get_or rows u 0) w

-- each row that holds k takes row k in
unfoldable pub through : ℕ → List ℕ → List ℕ
through k rows = map (λ r. pick (bit r k) (bit_or r (get_or rows k 0)) r) rows

-- the rows after those below k were taken in
unfoldable pub closure : ℕ → List ℕ → List ℕ
closure zero rows = rows
closure (suc k) rows = through k (closure k rows)

-- ---- one flip-flop taken in

pub through-length : (k : ℕ) (rows : List ℕ) → length (through k rows) ≡ length rows
unfolding through
through-length k rows = length-map rows (λ r. pick (bit r k) (bit_or r (get_or rows k 0)) r)

pub through-row : (k : ℕ) (rows : List ℕ) (u : ℕ) → get_or (through k rows) u 0 ≡ pick (arc rows u k) (bit_or (get_or rows u 0) (get_or rows k 0)) (get_or rows u 0)
unfolding through
through-row k rows u = ap (get_or (map f rows) u) (sym none) ∙ get_or-map f rows u 0
  where
    f : ℕ → ℕ
    f r = pick (bit r k) (bit_or r (get_or rows k 0)) r

    none : f 0 ≡ 0
    none = ap (λ b. pick b (bit_or 0 (get_or rows k 0)) 0) (bit-zero k)

pub through-arc : (k : ℕ) (rows : List ℕ) (u w : ℕ) → arc (through k rows) u w ≡ (arc rows u w || (arc rows u k && arc rows k w))
through-arc k rows u w = ap (λ r. bit r w) (through-row k rows u) ∙ go (arc rows u k)
  where
    go : (x : Bool) → bit (pick x (bit_or (get_or rows u 0) (get_or rows k 0)) (get_or rows u 0)) w ≡ (arc rows u w || (x && arc rows k w))
    go true = bit-or (get_or rows u 0) (get_or rows k 0) w
    go false = sym (or-false (arc rows u w))

-- ---- walks whose inner flip-flops are below k

data Via (E : ℕ → ℕ → Bool) (k : ℕ) : ℕ → ℕ → Type 0 where
  one : {u w : ℕ} → T (E u w) → Via E k u w
  more : {u x w : ℕ} → x < k → T (E u x) → Via E k x w → Via E k u w

module _ {E : ℕ → ℕ → Bool} where
  via-none : {u w : ℕ} → T (E u w) ↔ Via E 0 u w
  via-none = ((λ e. one e), back)
    where
      back : {u w : ℕ} → Via E 0 u w → T (E u w)
      back (one e) = e
      back (more l e p) = absurd (omega arith)

  via-wider : {k u w : ℕ} → Via E k u w → Via E (suc k) u w
  via-wider (one e) = one e
  via-wider (more {x = x} l e p) = more {x = x} (omega arith) e (via-wider p)

  via-join : {k u x w : ℕ} → x < k → Via E k u x → Via E k x w → Via E k u w
  via-join l (one e) q = more l e q
  via-join l (more j e p) q = more j e (via-join l p q)

  -- such a walk stops at k or it does not
  via-split : {k u w : ℕ} → Via E (suc k) u w → Via E k u w ⊎ (Via E k u k × Via E k k w)
  via-split (one e) = inl (one e)
  via-split {k} {u} {w} (more {x = x} l e p) = go (ℕ_discrete x k) (via-split p)
    where
      here : x ≡ k → Via E k u k
      here q = one (subst (λ z. T (E u z)) q e)

      lower : ¬ (x ≡ k) → x < k
      lower q = omega arith

      go : Dec (x ≡ k) → Via E k x w ⊎ (Via E k x k × Via E k k w) → Via E k u w ⊎ (Via E k u k × Via E k k w)
      go (yes q) (inl r) = inr (here q, subst (λ z. Via E k z w) q r)
      go (yes q) (inr r) = inr (here q, r.1)
      go (no q) (inl r) = inl (more (lower q) e r)
      go (no q) (inr r) = inr (more (lower q) e r.0, r.1)

  via-suc : {k u w : ℕ} → (Via E k u w ⊎ (Via E k u k × Via E k k w)) ↔ Via E (suc k) u w
  via-suc {k} = (⊎_elim via-wider (λ r. via-join (omega arith) (via-wider r.0) (via-wider r.1)), via-split)

  via-walk : {k u w : ℕ} → Via E k u w → Walk E every u w
  via-walk (one e) = edge_to tt tt e
  via-walk (more l e p) = step_to tt e (via-walk p)

  -- an inner flip-flop of a walk has an edge out
  walk-via : {n u w : ℕ} → ((a b : ℕ) → T (E a b) → a < n) → Walk E every u w → Via E n u w
  walk-via h (edge_to k l e) = one e
  walk-via h (step_to {x = x} k e p) = more (source-lt h p) e (walk-via h p)

-- ---- the closure

closure-via : (k : ℕ) (rows : List ℕ) (u w : ℕ) → T (arc (closure k rows) u w) ↔ Via (arc rows) k u w
unfolding closure
closure-via zero rows u w = via-none
closure-via (suc k) rows u w = Iff.trans (step (closure-via k rows u w) (closure-via k rows u k) (closure-via k rows k w)) via-suc
  where
    C : List ℕ
    C = closure k rows

    step : T (arc C u w) ↔ Via (arc rows) k u w → T (arc C u k) ↔ Via (arc rows) k u k → T (arc C k w) ↔ Via (arc rows) k k w
        → T (arc (through k C) u w) ↔ (Via (arc rows) k u w ⊎ (Via (arc rows) k u k × Via (arc rows) k k w))
    step f g h = (
      (λ t. ⊎_elim (λ p. inl (f.0 p)) (λ p. let q = T_and (arc C u k) (arc C k w) p in inr (g.0 q.0, h.0 q.1))
          (T-or (arc C u w) (arc C u k && arc C k w) (subst T (through-arc k C u w) t))),
      λ p. subst T (sym (through-arc k C u w))
          (⊎_elim (λ q. or_l (arc C u w) (arc C u k && arc C k w) (f.1 q))
          (λ q. or_r (arc C u w) (arc C u k && arc C k w) (and_T (arc C u k) (arc C k w) (g.1 q.0) (h.1 q.1))) p),
    )

pub reaches : (rows : List ℕ) (u w : ℕ) → T (bit (get_or (closure (length rows) rows) u 0) w) ↔ Walk (λ a b. bit (get_or rows a 0) b) every u w
reaches rows u w = Iff.trans (closure-via (length rows) rows u w) (via-walk, walk-via (row_from rows))

-- the same for the graph as lent
pub edge-reaches : (rows : List ℕ) (u w : ℕ) → T (bit (get_or (closure (length rows) (plain rows)) u 0) w) ↔ Walk (edge rows) every u w
edge-reaches rows u w = Iff.trans (rw plain-length at (reaches (plain rows) u w)) (widen (λ v k. k) to-edge, widen (λ v k. k) to-arc)
  where
    to-edge : (a b : ℕ) → T (arc (plain rows) a b) → T (edge rows a b)
    to-edge a b = subst T (sym (edge-plain rows a b))

    to-arc : (a b : ℕ) → T (edge rows a b) → T (arc (plain rows) a b)
    to-arc a b = subst T (edge-plain rows a b)

-- its rows are as many
pub closure-length : (k : ℕ) (rows : List ℕ) → length (closure k rows) ≡ length rows
unfolding closure
closure-length zero rows = refl
closure-length (suc k) rows = through-length k (closure k rows) ∙ closure-length k rows

-- ---- in any graph whose edges go out of flip-flops below n

pub walk? : (E : ℕ → ℕ → Bool) (n : ℕ) → ((u w : ℕ) → T (E u w) → u < n) → (u w : ℕ) → Dec (Walk E every u w)
walk? E n h u w = map_dec via-walk (walk-via h) (via? n u w)
  where
    either : {A B D : Type 0} → Dec A → Dec B → Dec D → Dec (A ⊎ (B × D))
    either (yes a) b d = yes (inl a)
    either (no a) (yes b) (yes d) = yes (inr (b, d))
    either (no a) (yes b) (no d) = no (⊎_elim a (λ r. d r.1))
    either (no a) (no b) d = no (⊎_elim a (λ r. b r.0))

    via? : (k u w : ℕ) → Dec (Via E k u w)
    via? zero u w = map_dec via-none.0 via-none.1 (T? (E u w))
    via? (suc k) u w = map_dec via-suc.0 via-suc.1 (either (via? k u w) (via? k u k) (via? k k w))
