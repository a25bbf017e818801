-- One component: the built room is fit for the walk, and the set that the walk finds is the lightest that meets every loop of the component, with the words
-- in use as its need. Assumes nothing.
use mathlib.Core.Path.{◌≡◌, sym, ◌∙◌}
use mathlib.Core.Bool.{Bool}
use mathlib.Core.List.{List}
use mathlib.Core.Option.{some}
use Prim.Native.Nat.{ℕ, ◌≤◌, ◌<◌}
use native.Mathlib.Omega.{arith}
use lib.Count.{ones}
use lib.ListN.{length, take, length-take}
use Rattle.masks.specs.Sets.{bit, those}
use Rattle.masks.proofs.Those.{those-in}
use Rattle.graphs.specs.Graph.{edge, cost_of}
use Rattle.graphs.specs.Light.{left}
use Rattle.graphs.specs.Components.{Component}
use Rattle.graphs.proofs.Components.{EdgesBelow}
use Rattle.graphs.specs.Work.{Sound}
use Rattle.graphs.proofs.InOrder.{sound-below}
use Rattle.trees.specs.Tree.{Tree, at, eval, Ordered}
use Rattle.trees.specs.Best.{Under, best}
use Rattle.trees.proofs.Bests.{at_under, LightestFree, best-some, best-is}
use Rattle.nodes.specs.Rooms.{used}
use Rattle.nodes.proofs.Counting.{used-within}
use Rattle.cycles.specs.Search.{back_of}
use Rattle.cycles.specs.Passes.{cycle}
use Rattle.cycles.specs.Work.{BuiltAt}
use Rattle.cycles.proofs.Models.{cycle_t, cycle-is, cycle-fine}
use Rattle.cycles.proofs.Picks.{component-best-some}
use Rattle.picker.specs.Work.{SetRight, LightestPromise}
use Rattle.picker.proofs.Picks.{best_of, best-lightest}

-- ---- a tree with the values of the cycle function has the best set of the component's

module _ {E : ℕ → ℕ → Bool} {n C : ℕ} (low : EdgesBelow E n) (comp : Component E C) (t : Tree) (o : Ordered 0 t) (u : Under n t)
    (is : (K : ℕ) → eval t K ≡ cycle E n C K) where
  at_same : (K : ℕ → Bool) → at t K ≡ at (cycle_t E n C) K
  at_same K =
      let f = cycle-fine low comp (ones (back_of E n C)) in
      let m : ℕ = those n K in
      let same : (v : ℕ) → v < n → K v ≡ bit m v = λ v l. sym (those-in n K v l) in
      at_under n t u K (bit m) same ∙ is m ∙ sym (cycle-is low comp m) ∙ sym (at_under n (cycle_t E n C) f.under K (bit m) same)

  pub best-built : (c : ℕ → ℕ) → best c n t ≡ some (best_of c E n C)
  unfolding best_of
  best-built c =
      let f = cycle-fine low comp (ones (back_of E n C)) in
      let r = component-best-some low comp c in
      let l : LightestFree c n (cycle_t E n C) r.0 = best-some c n (cycle_t E n C) f.good.ordered f.under r.0 r.1 in
      rw r.1
      ((best-is c n t o u r.0).1
      (record { fits = l.fits; frees = at_same (left r.0) ∙ l.frees; least = λ R k g. l.least R k (sym (at_same (left R)) ∙ g) }))

-- ---- one component of a block, in the first k words of the room, where its function has the code f

module _ (rows costs ws : List ℕ) (C k f : ℕ) (sound : Sound rows) (even : length costs ≡ length rows) (comp : Component (edge rows) C)
    (built : (k ≤ length ws) × BuiltAt (edge rows) (length rows) C (take k ws) f) where
  low : EdgesBelow (edge rows) (length rows)
  low = sound-below rows sound

  done : BuiltAt (edge rows) (length rows) C (take k ws) f
  done = built.1

  pub set-right : (S need : ℕ) → LightestPromise (take k ws) costs f S → need ≡ used (take k ws) → SetRight rows costs C (length ws) S need
  set-right S need h q =
      let g : best (cost_of costs) (length costs) done.tree ≡ some (best_of (cost_of costs) (edge rows) (length rows) C) =
      rw even (best-built low comp done.tree done.ordered done.under done.is (cost_of costs)) in
      record {
        lightest = rw (h done.tree (best_of (cost_of costs) (edge rows) (length rows) C) done.stands g) (best-lightest low comp (cost_of costs));
        counts = rw q done.need;
        fits = omega (arith, used-within (take k ws), length-take k ws);
      }
