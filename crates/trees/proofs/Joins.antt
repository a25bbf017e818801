-- What `mk` and the joins of trees are: `mk` is the decision that it is asked for, a join is the OR or AND of the two functions, and both give good trees
-- back. Shown by induction on the first tree, and for each branch of it on the second. Assumes nothing.
use mathlib.Core.Path.{◌≡◌, refl, sym, ap, ◌∙◌, subst}
use mathlib.Core.Logic.{◌≢◌}
use mathlib.Core.Bool.{Bool, true, false}
use Prim.Native.Nat.{ℕ, suc, ◌≤◌, ◌<◌, compare, Ordering}
use native.Mathlib.Omega.{arith}
use native.Mathlib.Decide.{ℕ_discrete}
use Rattle.masks.specs.Sets.{bit, pick}
use Rattle.trees.specs.Tree.{Tree, off, on, br, Tree-discrete, at, eval, mk, mk_if, op, pick3, join_br, join_t}
use Rattle.trees.specs.Best.{Under}
use Rattle.masks.proofs.Tests.{Stand, stand}
use Rattle.trees.proofs.Canonical.{Good, good-low, good-high, good-from, good-down, canon}

-- ---- a decision

-- the tree that `mk` gives is the low side where both are equal, and the branch where they differ
pub mk-is : (P : Tree → Type 0) (v : ℕ) (l h : Tree) → (l ≡ h → P l) → (l ≢ h → P (br v l h)) → P (mk v l h)
unfolding mk
mk-is P v l h low branch = go (Tree-discrete ℕ_discrete l h)
  where
    go : (d : Dec (l ≡ h)) → P (mk_if d l (br v l h))
    go (yes e) = low e
    go (no k) = branch k

pub mk-at : (v : ℕ) (l h : Tree) (K : ℕ → Bool) → at (mk v l h) K ≡ at (br v l h) K
mk-at v l h K = mk-is (λ t. at t K ≡ at (br v l h) K) v l h (both (K v)) (λ k. refl)
  where
    both : (x : Bool) → l ≡ h → at l K ≡ pick x (at h K) (at l K)
    both true e = ap (λ t. at t K) e
    both false e = refl

pub mk-good : (b v : ℕ) (l h : Tree) → b ≤ v → Good (suc v) l → Good (suc v) h → Good b (mk v l h)
mk-good b v l h k gl gh =
    mk-is (Good b) v l h (λ e. good-down l (suc v) b (omega arith) gl)
    (λ j. record { ordered = (k, gl.ordered, gh.ordered); reduced = (j, gl.reduced, gh.reduced) })

pub mk-under : (n v : ℕ) (l h : Tree) → v < n → Under n l → Under n h → Under n (mk v l h)
mk-under n v l h k ul uh = mk-is (Under n) v l h (λ e. ul) (λ j. (k, ul, uh))

-- ---- a join is OR or AND

op-off : (z x : Bool) (s : Tree) (K : ℕ → Bool) → at s K ≡ x → at (pick z s off) K ≡ op z x false
op-off true true s K e = e
op-off true false s K e = e
op-off false true s K e = refl
op-off false false s K e = refl

op-on : (z x : Bool) (s : Tree) (K : ℕ → Bool) → at s K ≡ x → at (pick z on s) K ≡ op z x true
op-on true true s K e = refl
op-on true false s K e = refl
op-on false true s K e = e
op-on false false s K e = e

off-op : (z : Bool) (t : Tree) (K : ℕ → Bool) → at (pick z t off) K ≡ op z false (at t K)
off-op true t K = refl
off-op false t K = refl

on_op : (z : Bool) (t : Tree) (K : ℕ → Bool) → at (pick z on t) K ≡ op z true (at t K)
on_op true t K = refl
on_op false t K = refl

-- one decision of both, of the first alone, of the second alone
op-pick : (z x a b c d : Bool) → pick x (op z a c) (op z b d) ≡ op z (pick x a b) (pick x c d)
op-pick z true a b c d = refl
op-pick z false a b c d = refl

op-pick-l : (z x a b c : Bool) → pick x (op z a c) (op z b c) ≡ op z (pick x a b) c
op-pick-l z true a b c = refl
op-pick-l z false a b c = refl

op-pick-r : (z x a c d : Bool) → pick x (op z a c) (op z a d) ≡ op z a (pick x c d)
op-pick-r z true a c d = refl
op-pick-r z false a c d = refl

-- f joins s with a tree
abbrev Joins : Bool → (ℕ → Bool) → Tree → (Tree → Tree) → Type 0
Joins z K s f = (t : Tree) → at (f t) K ≡ op z (at s K) (at t K)

join_br-at : (z : Bool) (K : ℕ → Bool) (v : ℕ) (l h : Tree) (fl fh : Tree → Tree) → Joins z K l fl → Joins z K h fh → Joins z K (br v l h) (join_br z v l h fl fh)
unfolding join_br
join_br-at z K v l h fl fh hl hh off = op-off z (at (br v l h) K) (br v l h) K refl
join_br-at z K v l h fl fh hl hh on = op-on z (at (br v l h) K) (br v l h) K refl
join_br-at z K v l h fl fh hl hh (br w p q) = go (compare v w) (stand v w) (join_br-at z K v l h fl fh hl hh p) (join_br-at z K v l h fl fh hl hh q)
  where
    f : Tree → Tree
    f = join_br z v l h fl fh

    go : (o : Ordering) → Stand o v w → at (f p) K ≡ op z (at (br v l h) K) (at p K) → at (f q) K ≡ op z (at (br v l h) K) (at q K)
        → at (pick3 o (mk v (fl (br w p q)) (fh (br w p q))) (mk v (fl p) (fh q)) (mk w (f p) (f q))) K ≡ op z (at (br v l h) K) (at (br w p q) K)
    go Ordering.lt k ep eq = rw (mk-at, hl, hh) (op-pick-l z (K v) (at h K) (at l K) (at (br w p q) K))
    go Ordering.eq k ep eq = rw (← k, mk-at, hl, hh) (op-pick z (K v) (at h K) (at l K) (at q K) (at p K))
    go Ordering.gt k ep eq = rw (mk-at, ep, eq) (op-pick-r z (K w) (at (br v l h) K) (at q K) (at p K))

pub join_t-at : (z : Bool) (s t : Tree) (K : ℕ → Bool) → at (join_t z s t) K ≡ op z (at s K) (at t K)
unfolding join_t
join_t-at z off t K = off-op z t K
join_t-at z on t K = on_op z t K
join_t-at z (br v l h) t K = join_br-at z K v l h (join_t z l) (join_t z h) (λ t'. join_t-at z l t' K) (λ t'. join_t-at z h t' K) t

pub join_t-eval : (z : Bool) (s t : Tree) (m : ℕ) → eval (join_t z s t) m ≡ op z (eval s m) (eval t m)
join_t-eval z s t m = join_t-at z s t (bit m)

-- ---- what a join keeps

-- a property of trees, by the lowest variable that they may have, that goes down to the sides of a branch and that `mk` brings up again
pub record Kept (P : ℕ → Tree → Type 0) : Type 0 where
  pub low : (b v : ℕ) (l h : Tree) → P b (br v l h) → P (suc v) l
  pub high : (b v : ℕ) (l h : Tree) → P b (br v l h) → P (suc v) h
  pub from : (b v : ℕ) (l h : Tree) → P b (br v l h) → (b' : ℕ) → b' ≤ v → P b' (br v l h)
  pub made : (b v : ℕ) (l h : Tree) → P b (br v l h) → (l' h' : Tree) → P (suc v) l' → P (suc v) h' → P b (mk v l' h')

module _ (P : ℕ → Tree → Type 0) where
  pick-kept : (b : ℕ) (z : Bool) (s t : Tree) → P b s → P b t → P b (pick z s t)
  pick-kept b true s t g g' = g
  pick-kept b false s t g g' = g'

  module _ (kept : Kept P) where
    join_br-kept : (z : Bool) (v : ℕ) (l h : Tree) (fl fh : Tree → Tree)
        → ((t : Tree) → P (suc v) t → P (suc v) (fl t)) → ((t : Tree) → P (suc v) t → P (suc v) (fh t))
        → (t : Tree) (b : ℕ) → P b (br v l h) → P b t → P b (join_br z v l h fl fh t)
    unfolding join_br
    join_br-kept z v l h fl fh hl hh off b g g' = pick-kept b z (br v l h) off g g'
    join_br-kept z v l h fl fh hl hh on b g g' = pick-kept b z on (br v l h) g' g
    join_br-kept z v l h fl fh hl hh (br w p q) b g g' =
        go (compare v w) (stand v w) (join_br-kept z v l h fl fh hl hh p (suc w)) (join_br-kept z v l h fl fh hl hh q (suc w))
      where
        f : Tree → Tree
        f = join_br z v l h fl fh

        -- the second tree as one of the variable v, where that is its variable
        same : v ≡ w → P b (br v p q)
        same k = subst (λ x. P b (br x p q)) (sym k) g'

        go : (o : Ordering) → Stand o v w
            → (P (suc w) (br v l h) → P (suc w) p → P (suc w) (f p)) → (P (suc w) (br v l h) → P (suc w) q → P (suc w) (f q))
            → P b (pick3 o (mk v (fl (br w p q)) (fh (br w p q))) (mk v (fl p) (fh q)) (mk w (f p) (f q)))
        go Ordering.lt k ip iq =
            let g'' : P (suc v) (br w p q) = kept.from b w p q g' (suc v) k in
            kept.made b v l h g (fl (br w p q)) (fh (br w p q)) (hl (br w p q) g'') (hh (br w p q) g'')
        go Ordering.eq k ip iq = kept.made b v l h g (fl p) (fh q) (hl p (kept.low b v p q (same k))) (hh q (kept.high b v p q (same k)))
        go Ordering.gt k ip iq =
            let g'' : P (suc w) (br v l h) = kept.from b v l h g (suc w) k in
            kept.made b w p q g' (f p) (f q) (ip g'' (kept.low b w p q g')) (iq g'' (kept.high b w p q g'))

    pub join_t-kept : (z : Bool) (s t : Tree) (b : ℕ) → P b s → P b t → P b (join_t z s t)
    unfolding join_t
    join_t-kept z off t b g g' = pick-kept b z t off g' g
    join_t-kept z on t b g g' = pick-kept b z on t g g'
    join_t-kept z (br v l h) t b g g' =
        join_br-kept z v l h (join_t z l) (join_t z h) (λ t'. join_t-kept z l t' (suc v) (kept.low b v l h g))
        (λ t'. join_t-kept z h t' (suc v) (kept.high b v l h g)) t b g g'

pub good-kept : Kept Good
good-kept =
    record {
      low = λ b v l h g. good-low g;
      high = λ b v l h g. good-high g;
      from = λ b v l h g b' k. good-from b' k g;
      made = λ b v l h g l' h'. mk-good b v l' h' g.ordered.0;
    }

pub join_t-good : (z : Bool) (s t : Tree) (b : ℕ) → Good b s → Good b t → Good b (join_t z s t)
join_t-good = join_t-kept Good good-kept

pub under-kept : (n : ℕ) → Kept (λ b. Under n)
under-kept n =
    record {
      low = λ b v l h u. u.1;
      high = λ b v l h u. u.2;
      from = λ b v l h u b' k. u;
      made = λ b v l h u l' h'. mk-under n v l' h' u.0;
    }

pub join_t-under : (n : ℕ) (z : Bool) (s t : Tree) → Under n s → Under n t → Under n (join_t z s t)
join_t-under n z s t = join_t-kept (λ b. Under n) (under-kept n) z s t 0

-- OR and AND commute, and so do the joins of good trees
pub join_t-comm : (z : Bool) (s t : Tree) (b : ℕ) → Good b s → Good b t → join_t z s t ≡ join_t z t s
join_t-comm z s t b g g' =
    canon b b (join_t z s t) (join_t z t s) (join_t-good z s t b g g') (join_t-good z t s b g' g)
    (λ m. join_t-eval z s t m ∙ op_comm z (eval s m) (eval t m) ∙ sym (join_t-eval z t s m))
  where
    op_comm : (z x y : Bool) → op z x y ≡ op z y x
    op_comm true true true = refl
    op_comm true true false = refl
    op_comm true false true = refl
    op_comm true false false = refl
    op_comm false true true = refl
    op_comm false true false = refl
    op_comm false false true = refl
    op_comm false false false = refl
