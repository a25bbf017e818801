-- The model of a component: its listed functions and its cycle function as trees, with the need that they give, after any number of passes.
-- Assumes nothing.
use mathlib.Core.Path.{◌≡◌, subst}
use mathlib.Core.Bool.{Bool}
use mathlib.Core.List.{List, map}
use Prim.Native.Nat.{ℕ, ◌<◌}
use lib.Count.{ones}
use lib.Dec.{T}
use lib.ListN.{length}
use Rattle.graphs.specs.Graph.{Of}
use Rattle.graphs.specs.Components.{Component, inside}
use Rattle.graphs.proofs.Components.{EdgesBelow}
use Rattle.trees.specs.Tree.{Tree, eval, subs_all, once}
use Rattle.trees.specs.Need.{Need}
use Rattle.trees.proofs.Needs.{need-trees}
use Rattle.cycles.specs.Search.{back_of}
use Rattle.cycles.specs.Passes.{result, listed, cycle, functions}
use Rattle.graphs.proofs.Parts.{inside-edge}
use Rattle.cycles.proofs.Logs.{order_of}
use Rattle.cycles.proofs.Searches.{member-lt, back-lt, back-meets, order_of-member, order-differ, order-sorted}
use Rattle.cycles.proofs.Passes.{inside-source}
use Rattle.cycles.proofs.PassTrees.{Run, run, listed_t, result_t, listed-are, result-is}
use Rattle.cycles.proofs.FineTrees.{Fine, AllFine, fine-good, RunFine, run-fine, listed-fine, result-fine}

-- of the component C of E: after k passes, and after as many as B has members
unfoldable pub run_of : (ℕ → ℕ → Bool) → ℕ → ℕ → ℕ → Run
run_of E n C k = run (inside E C) n (back_of E n C) C (order_of E n C) k

unfoldable pub functions_after : (ℕ → ℕ → Bool) → ℕ → ℕ → ℕ → List Tree
functions_after E n C k = listed_t n (back_of E n C) C (run_of E n C k)

unfoldable pub cycle_after : (ℕ → ℕ → Bool) → ℕ → ℕ → ℕ → Tree
cycle_after E n C k = result_t n (back_of E n C) (run_of E n C k)

unfoldable pub need_after : (ℕ → ℕ → Bool) → ℕ → ℕ → ℕ → ℕ
need_after E n C k = length (once (subs_all (functions_after E n C k)))

abbrev pub functions_t : (ℕ → ℕ → Bool) → ℕ → ℕ → List Tree
functions_t E n C = functions_after E n C (ones (back_of E n C))

abbrev pub cycle_t : (ℕ → ℕ → Bool) → ℕ → ℕ → Tree
cycle_t E n C = cycle_after E n C (ones (back_of E n C))

abbrev pub need_of : (ℕ → ℕ → Bool) → ℕ → ℕ → ℕ
need_of E n C = need_after E n C (ones (back_of E n C))

module _ {E : ℕ → ℕ → Bool} {n C : ℕ} (low : EdgesBelow E n) (comp : Component E C) where
  order_below : (v : ℕ) → Of v (order_of E n C) → v < n
  order_below v m = member-lt low comp v ((order_of-member low comp v).0 m)

  order-all : (u v : ℕ) → T (inside E C u v) → Of v (order_of E n C)
  order-all u v e = (order_of-member low comp v).1 (inside-edge E C u v e).1

  -- the trees of the listed functions, in their order
  pub functions_after-are : (k : ℕ) → map eval (functions_after E n C k) ≡ listed (inside E C) n (back_of E n C) C k
  unfolding functions_after run_of
  functions_after-are =
      listed-are (inside E C) n (back_of E n C) C (inside-source low comp) (back-meets low comp) (order_of E n C) (order-sorted low comp) (order-differ low comp)
      order_below order-all (back-lt low comp)

  pub cycle_after-is : (k K : ℕ) → eval (cycle_after E n C k) K ≡ result (inside E C) n (back_of E n C) k K
  unfolding cycle_after run_of
  cycle_after-is =
      result-is (inside E C) n (back_of E n C) C (inside-source low comp) (back-meets low comp) (order_of E n C) (order-sorted low comp) (order-differ low comp)
      order_below order-all (back-lt low comp)

  pub runs-fine : (k : ℕ) → RunFine n (run_of E n C k)
  unfolding run_of
  runs-fine = run-fine n (inside E C) (back_of E n C) C (order_of E n C) order_below

  pub functions-fine : (k : ℕ) → AllFine n (functions_after E n C k)
  unfolding functions_after
  functions-fine k = listed-fine n (back_of E n C) C (run_of E n C k) (runs-fine k)

  pub cycle-fine : (k : ℕ) → Fine n (cycle_after E n C k)
  unfolding cycle_after
  cycle-fine k = result-fine n (back_of E n C) C (run_of E n C k) (runs-fine k)

  pub need_after-is : (k : ℕ) → Need (listed (inside E C) n (back_of E n C) C k) (need_after E n C k)
  unfolding need_after
  need_after-is k =
      subst (λ L. Need L (need_after E n C k)) (functions_after-are k)
      (need-trees (functions_after E n C k) (fine-good n (functions_after E n C k) (functions-fine k)))

  -- with as many passes as B has members
  pub functions-are : map eval (functions_t E n C) ≡ functions E n C
  functions-are = functions_after-are (ones (back_of E n C))

  -- "the number of different non-constant functions got from the listed ones by fixing the first j variables"
  pub need_of-is : Need (functions E n C) (need_of E n C)
  need_of-is = need_after-is (ones (back_of E n C))

  pub cycle-is : (K : ℕ) → eval (cycle_t E n C) K ≡ cycle E n C K
  cycle-is = cycle_after-is (ones (back_of E n C))
