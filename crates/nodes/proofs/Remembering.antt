-- The memo room: an entry that is found is right, whichever of the two codes was first; it stays right as the node room grows, and one more right entry
-- leaves the others right. Assumes nothing.
use mathlib.Core.Path.{◌≡◌, refl, sym, ap, subst, ◌∙◌}
use mathlib.Core.Logic.{◌≢◌, ◌⊎◌, inl, inr, ⊎_elim}
use mathlib.Core.Bool.{Bool, true, false}
use mathlib.Core.List.{List}
use Prim.Native.Nat.{ℕ, min, max, ◌^◌, ◌≤◌, ◌<◌}
use native.Mathlib.Omega.{arith}
use lib.ListN.{length, get_or, set, replicate, get_or-eq_default}
use lib.Seq.{get_or-set_same, get_or-set_other, set_out}
use Rattle.graphs.proofs.Lists.{all_alike}
use Rattle.trees.specs.Tree.{Tree, join_t}
use Rattle.trees.proofs.Joins.{join_t-comm}
use Rattle.nodes.specs.Codes.{Stands, Table, Grows}
use Rattle.nodes.specs.Promise.{pair, key, noted, Entry, Memo}
use Rattle.nodes.specs.Work.{Recalled, Known}
use Rattle.std.specs.Prelude.{Option, Some, None}
use Rattle.nodes.specs.declared.Node.{Node}
use Rattle.nodes.proofs.Slots.{same_or, lt-or-le}
use Rattle.nodes.proofs.Standing.{stands-grows, stands_one, stands_good, stands-small}

-- ---- one word

-- the word of a join of two nodes is not 0
noted-nonzero : (or : Bool) (a b r : ℕ) → 2 ≤ a → noted or a b r ≢ 0
unfolding noted key pair
noted-nonzero true a b r l e = omega arith
noted-nonzero false a b r l e = omega arith

-- what one word says, whoever reads it
record Same (or : Bool) (a b r : ℕ) (or' : Bool) (a' b' r' : ℕ) : Type 0 where
  op : or ≡ or'
  result : r ≡ r'
  codes : ((a ≡ a') × (b ≡ b')) ⊎ ((a ≡ b') × (b ≡ a'))

record Small (a b r : ℕ) : Type 0 where
  first : a < 2 ^ 17
  second : b < 2 ^ 17
  third : r < 2 ^ 17

module _ (a b r a' b' r' : ℕ) (k : Small a b r) (k' : Small a' b' r') where
  -- two numbers with the same least and greatest
  either_way : min a b ≡ min a' b' → max a b ≡ max a' b' → ((a ≡ a') × (b ≡ b')) ⊎ ((a ≡ b') × (b ≡ a'))
  either_way e f =
      ⊎_elim (λ l. ⊎_elim (λ l'. inl (omega arith)) (λ l'. inr (omega arith)) (lt-or-le a' b'))
      (λ l. ⊎_elim (λ l'. inr (omega arith)) (λ l'. inl (omega arith)) (lt-or-le a' b')) (lt-or-le a b)

  noted-same : (or or' : Bool) → noted or a b r ≡ noted or' a' b' r' → Same or a b r or' a' b' r'
  unfolding noted key pair
  noted-same true true e = record { op = refl; result = omega arith; codes = either_way (omega arith) (omega arith) }
  noted-same true false e = absurd (omega arith)
  noted-same false true e = absurd (omega arith)
  noted-same false false e = record { op = refl; result = omega arith; codes = either_way (omega arith) (omega arith) }

-- ---- the memo room

pub memo-none : (ws ms : List ℕ) → ((i : ℕ) → get_or ms i 0 ≡ 0) → Memo ws ms
memo-none ws ms z i k = absurd (k (z i))

-- a room of zeros
pub memo-zero : (ws : List ℕ) (n : ℕ) → Memo ws (replicate n 0)
memo-zero ws n = memo-none ws (replicate n 0) (all_alike 0 n)

entry-grows : {ws ws' : List ℕ} {w : ℕ} → Grows ws ws' → Entry ws w → Entry ws' w
entry-grows g e =
    record {
      or = e.or;
      a = e.a;
      b = e.b;
      r = e.r;
      is = e.is;
      s = e.s;
      t = e.t;
      left = stands-grows g e.left;
      right = stands-grows g e.right;
      joins = stands-grows g e.joins;
    }

pub memo-grows : {ws ws' : List ℕ} (ms : List ℕ) → Grows ws ws' → Memo ws ms → Memo ws' ms
memo-grows ms g m i k = entry-grows g (m i k)

-- a right entry is put in
pub memo-set : (ws ms : List ℕ) (i w : ℕ) → Memo ws ms → Entry ws w → Memo ws (set ms i w)
memo-set ws ms i w m e j k = ⊎_elim (λ p. subst (Entry ws) (sym (here p)) e) (λ q. subst (Entry ws) (sym (other q)) (m j (λ z. k (other q ∙ z)))) (same_or j i)
  where
    here : j ≡ i → get_or (set ms i w) j 0 ≡ w
    here p = ⊎_elim (λ l. ap (λ (x : ℕ). get_or (set ms i w) x 0) p ∙ get_or-set_same ms i w 0 l)
        (λ g. absurd (k (ap (λ (x : List ℕ). get_or x j 0) (set_out ms i w g) ∙ get_or-eq_default ms 0 (omega arith)))) (lt-or-le i (length ms))

    other : j ≢ i → get_or (set ms i w) j 0 ≡ get_or ms j 0
    other q = get_or-set_other ms i j w 0 q

-- what is found is right
module _ (ws ms : List ℕ) (or : Bool) (a b : ℕ) (s t : Tree) (T : Table ws) (m : Memo ws ms) (a2 : 2 ≤ a) (sa : Stands ws a s) (sb : Stands ws b t) where
  found : (r w : ℕ) → r < 2 ^ 17 → w ≡ noted or a b r → Entry ws w → Stands ws r (join_t or s t)
  found r w l q e = go (noted-same a b r e.a e.b e.r k k' or e.or (sym q ∙ e.is))
    where
      k : Small a b r
      k = record { first = stands-small T.small sa; second = stands-small T.small sb; third = l }

      k' : Small e.a e.b e.r
      k' = record { first = stands-small T.small e.left; second = stands-small T.small e.right; third = stands-small T.small e.joins }

      go : Same or a b r e.or e.a e.b e.r → Stands ws r (join_t or s t)
      go x = rw (x.result, x.op) (⊎_elim straight crossed x.codes)
        where
          straight : (a ≡ e.a) × (b ≡ e.b) → Stands ws e.r (join_t e.or s t)
          straight y =
              let p : s ≡ e.s = stands_one sa (rw y.0 e.left) in
              let p' : t ≡ e.t = stands_one sb (rw y.1 e.right) in
              rw (p, p') e.joins

          crossed : (a ≡ e.b) × (b ≡ e.a) → Stands ws e.r (join_t e.or s t)
          crossed y =
              let p : s ≡ e.t = stands_one sa (rw y.0 e.right) in
              let p' : t ≡ e.s = stands_one sb (rw y.1 e.left) in
              rw (p, p', join_t-comm e.or e.t e.s 0 (stands_good T e.right) (stands_good T e.left)) e.joins

  pub memo-right : (i r : ℕ) → get_or ms i 0 ≡ noted or a b r → r < 2 ^ 17 → Stands ws r (join_t or s t)
  memo-right i r q l = found r (get_or ms i 0) l q (m i (λ z. noted-nonzero or a b r a2 (sym q ∙ z)))

-- what `recall` found is known
pub known-recalled : (ms : List ℕ) (or : Bool) (a b : ℕ) (r : Option Node) → (2 ≤ a) × (2 ≤ b) → Recalled ms or a b r → Known ms or a b r
known-recalled ms or a b (Some c) k q = λ ws s t T m sa sb. memo-right ws ms or a b s t T m k.0 sa sb q.0 c.0 q.1 q.2
known-recalled ms or a b None k q = k
