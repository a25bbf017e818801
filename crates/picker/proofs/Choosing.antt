-- The lighter one of two answers of the walk, and an answer with one flip-flop more: the set is the one that the definitions choose, and its cost goes along.
-- Costs stay far below the word's end. Assumes nothing.
use mathlib.Core.Path.{◌≡◌, refl, sym, ap, ◌∙◌, subst, subst₂}
use mathlib.Core.Logic.{◌⊎◌, inl, inr}
use mathlib.Core.Bool.{true, false}
use mathlib.Core.List.{List}
use mathlib.Core.Option.{some}
use Prim.Native.Nat.{ℕ, ◌+◌, ◌^◌, ◌≤◌, ◌<◌}
use native.Mathlib.Omega.{arith}
use borrow.Author.Tests.{lt-ltb, le-ltb, le-leb, lt-leb, eq-eqb, ne_eqb}
use lib.ListN.{length, get_or}
use Rattle.std.specs.Prelude as prelude
use Rattle.std.specs.Prelude.{Some, None, cond}
use Rattle.std.proofs.Common.{Ordering, Less, Equal, Greater}
use Rattle.std.specs.Ordering.{MatchOrdering, is_lt, nat_cmp, ordering_then, ord_min}
use Rattle.std.specs.Cmp.{ranks}
use Rattle.masks.specs.Sets.{put, number, weight}
use Rattle.masks.specs.declared.Mask.{Mask}
use Rattle.masks.proofs.Numbers.{order-number}
use Rattle.masks.proofs.Weights.{weight-new, weight-most}
use Rattle.graphs.specs.Graph.{cost_of}
use Rattle.trees.specs.Best.{as_light, held}
use Rattle.trees.specs.Best as trees
use Rattle.picker.specs.Work.{set_of, Priced, Lacks, LighterPromise}
use Rattle.picker.specs.declared.best.Best.{Best}
use Rattle.picker.specs.contracts.best.BestOrd.TheImpl.{cmp-value}

-- ---- the test for as light: k and j are the weights

module _ (c : ℕ → ℕ) (n S R k j : ℕ) (p : k ≡ weight c n S) (q : j ≡ weight c n R) where
  as-light-yes : (k < j) ⊎ ((k ≡ j) × (S ≤ R)) → as_light c n S R ≡ true
  unfolding as_light
  as-light-yes (inl l) = rw (lt-ltb (weight c n S) (weight c n R) (omega arith))
  as-light-yes (inr l) =
      rw (le-ltb (weight c n S) (weight c n R) (omega arith), eq-eqb (weight c n S) (weight c n R) (omega arith)) (le-leb S R l.1)

  as-light-no : (j < k) ⊎ ((k ≡ j) × (R < S)) → as_light c n S R ≡ false
  unfolding as_light
  as-light-no (inl l) = rw (le-ltb (weight c n S) (weight c n R) (omega arith), ne_eqb (weight c n S) (weight c n R) (omega arith))
  as-light-no (inr l) =
      rw (le-ltb (weight c n S) (weight c n R) (omega arith), eq-eqb (weight c n S) (weight c n R) (omega arith)) (lt-leb S R l.1)

-- ---- the smaller one of two, by cost and then by number, is the lighter one

module _ (c : ℕ → ℕ) (n : ℕ) (x y : Best) (p : Priced c n (Some x)) (q : Priced c n (Some y)) where
  abbrev Chosen : Best → Type 0
  Chosen r = (set_of (Some r) ≡ trees.lighter c n (set_of (Some x)) (set_of (Some y))) × Priced c n (Some r)

  first : (x.cost < y.cost) ⊎ ((x.cost ≡ y.cost) × (number x.set ≤ number y.set)) → Chosen x
  first d = (rw (as-light-yes c n (number x.set) (number y.set) x.cost y.cost p q d) refl, p)

  second : (y.cost < x.cost) ⊎ ((x.cost ≡ y.cost) × (number y.set < number x.set)) → Chosen y
  second d = (rw (as-light-no c n (number x.set) (number y.set) x.cost y.cost p q d) refl, q)

  chosen : (o s : Ordering) → MatchOrdering o (y.cost < x.cost) (y.cost ≡ x.cost) (x.cost < y.cost)
      → MatchOrdering s (number y.set < number x.set) (number y.set ≡ number x.set) (number x.set < number y.set)
      → Chosen (cond (is_lt (ordering_then o s)) y x)
  chosen Less s l m = second (inl l)
  chosen Equal Less l m = second (inr (sym l, m))
  chosen Equal Equal l m = first (inr (sym l, omega arith))
  chosen Equal Greater l m = first (inr (sym l, omega arith))
  chosen Greater s l m = first (inl l)

pub smaller_lighter : {a b : prelude.Option Best} {x y r : Best} → a ≡ Some x → b ≡ Some y → r ≡ ord_min cmp-value.it x y → LighterPromise a b (Some r)
smaller_lighter {a} {b} {x} {y} {r} d e f =
    subst₂ (λ s t. LighterPromise s t (Some r)) (sym d) (sym e)
    (subst (λ z. LighterPromise (Some x) (Some y) (Some z)) (sym f)
    (λ c n p q. chosen c n x y p q (nat_cmp y.cost x.cost) (nat_cmp y.set.0 x.set.0) (ranks y.cost x.cost) (order-number y.set x.set)))

-- where only one has a set
pub other-one : {a : prelude.Option Best} (b : prelude.Option Best) → a ≡ None → LighterPromise a b b
other-one b e = subst (λ x. LighterPromise x b b) (sym e) (λ c n p q. (refl, q))

pub only_one : {a b : prelude.Option Best} (x : Best) → a ≡ Some x → b ≡ None → LighterPromise a b (Some x)
only_one x e f = subst₂ (λ y z. LighterPromise y z (Some x)) (sym e) (sym f) (λ c n p q. (refl, p))

-- ---- one flip-flop more

pub held_one : (c : ℕ → ℕ) (n v : ℕ) (best : Best) (S' : Mask) → v < n → Priced c n (Some best) → Lacks v (Some best) → number S' ≡ put (number best.set) v
    → (some (number S') ≡ held v (set_of (Some best))) × (best.cost + c v ≡ weight c n (number S'))
held_one c n v best S' l p q f = (ap some f, ap (λ x. x + c v) p ∙ sym (weight-new c n (number best.set) v l q) ∙ ap (weight c n) (sym f))

-- ---- costs

-- a set of at most 64 flip-flops costs less than 2 ^ 39
-- "its cost is .. at most 274,877,906,880"
pub cost-most : (costs : List ℕ) (S : ℕ) → length costs ≤ 64 → ((v : ℕ) → get_or costs v 0 ≤ 4294967295)
    → weight (cost_of costs) (length costs) S ≤ 274877906880
cost-most costs S l h = omega (arith, weight-most (cost_of costs) S 4294967295 h (length costs))

pub weight-small : (costs : List ℕ) (S : ℕ) → length costs ≤ 64 → ((v : ℕ) → get_or costs v 0 < 2 ^ 32) → weight (cost_of costs) (length costs) S < 2 ^ 39
weight-small costs S l h = omega (arith, cost-most costs S l (λ v. omega (arith, h v)))
