-- Decisions and joins, taken apart: what `mk` is and which parts it has; a join with a constant, with itself, and of two branches, one decision at the
-- lower variable. Assumes nothing.
use mathlib.Core.Path.{◌≡◌, refl, sym, subst, ◌∙◌}
use mathlib.Core.Logic.{◌≢◌, inr}
use mathlib.Core.Bool.{Bool, true, false}
use Prim.Native.Nat.{ℕ, ◌<◌, compare, Ordering}
use native.Mathlib.Omega.{arith}
use Rattle.masks.specs.Sets.{pick}
use Rattle.masks.proofs.Tests.{Stand, stand}
use Rattle.graphs.specs.Graph.{Of}
use Rattle.graphs.proofs.Lists.{Of-left, Of-right}
use Rattle.trees.specs.Tree.{Tree, off, on, br, eval, mk, op, pick3, join_br, join_t, subs}
use Rattle.trees.proofs.Canonical.{Good, canon}
use Rattle.trees.proofs.Joins.{mk-is, join_t-eval, join_t-good}

-- ---- a decision

module _ (v : ℕ) (l h : Tree) where
  pub mk-same : l ≡ h → mk v l h ≡ l
  mk-same e = mk-is (λ t. t ≡ l) v l h (λ k. refl) (λ k. absurd (k e))

  pub mk-other : l ≢ h → mk v l h ≡ br v l h
  mk-other d = mk-is (λ t. t ≡ br v l h) v l h (λ e. absurd (d e)) (λ k. refl)

  pub part_low : (u : Tree) → Of u (subs l) → Of u (subs (mk v l h))
  part_low u p = mk-is (λ t. Of u (subs t)) v l h (λ e. p) (λ k. inr (Of-left u (subs l) (subs h) p))

  pub part-high : (u : Tree) → Of u (subs h) → Of u (subs (mk v l h))
  part-high u p = mk-is (λ t. Of u (subs t)) v l h (λ e. subst (λ t. Of u (subs t)) (sym e) p) (λ k. inr (Of-right u (subs l) (subs h) p))

-- ---- a join with a constant, and with itself

-- the constant that a join with it leaves as it is, and the one that it becomes
abbrev pub unit_t : Bool → Tree
unit_t or = pick or off on

abbrev pub zero_t : Bool → Tree
zero_t or = pick or on off

pub join-left : (or : Bool) (t : Tree) → (join_t or (unit_t or) t ≡ t) × (join_t or (zero_t or) t ≡ zero_t or)
unfolding join_t
join-left true t = (refl, refl)
join-left false t = (refl, refl)

pub join-right : (or : Bool) (t : Tree) → (join_t or t (unit_t or) ≡ t) × (join_t or t (zero_t or) ≡ zero_t or)
unfolding join_t join_br
join-right true off = (refl, refl)
join-right true on = (refl, refl)
join-right true (br v l h) = (refl, refl)
join-right false off = (refl, refl)
join-right false on = (refl, refl)
join-right false (br v l h) = (refl, refl)

pub join-self : (or : Bool) (t : Tree) (b : ℕ) → Good b t → join_t or t t ≡ t
join-self or t b g = canon b b (join_t or t t) t (join_t-good or t t b g g) g (λ m. join_t-eval or t t m ∙ same or (eval t m))
  where
    same : (or x : Bool) → op or x x ≡ x
    same true true = refl
    same true false = refl
    same false true = refl
    same false false = refl

-- ---- a join of two branches

module _ (or : Bool) (v w : ℕ) (l h p q : Tree) where
  -- the three ways of a join, by how the variables compare
  abbrev way : Ordering → Tree
  way o =
      pick3 o (mk v (join_t or l (br w p q)) (join_t or h (br w p q))) (mk v (join_t or l p) (join_t or h q))
      (mk w (join_t or (br v l h) p) (join_t or (br v l h) q))

  join-way : join_t or (br v l h) (br w p q) ≡ way (compare v w)
  unfolding join_t join_br
  join-way = refl

  -- the way o where the variables compare so
  join-so : (o : Ordering) → Stand o v w → join_t or (br v l h) (br w p q) ≡ way o
  join-so o k = join-way ∙ go o (compare v w) k (stand v w)
    where
      go : (o o' : Ordering) → Stand o v w → Stand o' v w → way o' ≡ way o
      go Ordering.lt Ordering.lt k i = refl
      go Ordering.lt Ordering.eq k i = absurd (omega arith)
      go Ordering.lt Ordering.gt k i = absurd (omega arith)
      go Ordering.eq Ordering.lt k i = absurd (omega arith)
      go Ordering.eq Ordering.eq k i = refl
      go Ordering.eq Ordering.gt k i = absurd (omega arith)
      go Ordering.gt Ordering.lt k i = absurd (omega arith)
      go Ordering.gt Ordering.eq k i = absurd (omega arith)
      go Ordering.gt Ordering.gt k i = refl

  module _ {s t : Tree} (x : ℕ) (es : s ≡ br v l h) (et : t ≡ br w p q) where
    pub join-less : x ≡ v → v < w → join_t or s t ≡ mk x (join_t or l t) (join_t or h t)
    join-less e k = rw (es, et, e) (join-so Ordering.lt k)

    pub join-both : x ≡ v → v ≡ w → join_t or s t ≡ mk x (join_t or l p) (join_t or h q)
    join-both e k = rw (es, et, e) (join-so Ordering.eq k)

    pub join_more : x ≡ w → w < v → join_t or s t ≡ mk x (join_t or s p) (join_t or s q)
    join_more e k = rw (es, et, e) (join-so Ordering.gt k)
