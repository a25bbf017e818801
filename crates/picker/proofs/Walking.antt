-- The walk along the paths to 0: what is known at a branch, that fewer variables remain on its sides, and that the answer for the branch follows from those
-- for the sides. Assumes nothing.
use mathlib.Core.Path.{◌≡◌, sym, ap, ap₂, ◌∙◌, subst, subst₂}
use mathlib.Core.List.{List}
use mathlib.Core.Option.{some}
use Prim.Native.Nat.{ℕ, suc, ◌-◌, ◌^◌, ◌≤◌, ◌<◌}
use native.Mathlib.Omega.{arith}
use lib.ListN.{length, get_or}
use Rattle.std.specs.Prelude.{Some, None}
use Rattle.std.specs.Prelude as prelude
use Rattle.masks.specs.Sets.{number, weight}
use Rattle.masks.specs.declared.Mask.{Mask}
use Rattle.masks.specs.declared.Vertex.{Vertex}
use Rattle.masks.proofs.Weights.{weight-none}
use Rattle.graphs.specs.Graph.{cost_of}
use Rattle.trees.specs.Tree.{Tree, off, on, br, Ordered}
use Rattle.trees.specs.Best.{Frees, Under, held, lighter}
use Rattle.trees.proofs.Bests.{Answer, best-answer}
use Rattle.nodes.specs.Codes.{variables, level, Stands}
use Rattle.nodes.specs.Promise.{LookPromise}
use Rattle.nodes.specs.declared.Node.{Node}
use Rattle.nodes.specs.declared.Shape.TheVariants.{Off, Branch}
use Rattle.nodes.proofs.Standing.{stands_one, level-br, level-above}
use Rattle.picker.specs.Work.{set_of, Priced, Lacks, Told, LighterPromise, BestMemo, Remembered, Standing, Walked}
use Rattle.picker.specs.declared.best.Best.{Best}
use Rattle.picker.proofs.Choosing.{weight-small}

-- the number of variables that remain for a walk from a code
abbrev pub remaining : List ℕ → ℕ → ℕ
remaining ws c = variables - level ws c

-- ---- an answer for the tree is one for whatever the code stands for

module _ {ws costs : List ℕ} {code : ℕ} (w : Standing ws costs code) where
  walked : (r : prelude.Option Best) → Told (cost_of costs) (length costs) w.tree r → Walked ws costs code r
  walked r t u s = subst (λ x. Told (cost_of costs) (length costs) x r) (stands_one w.stands s) t

  -- the end at 0
  pub walked-off : (S : Mask) → LookPromise ws code Off → number S ≡ 0 → Walked ws costs code (Some (record { cost = 0; set = S }))
  walked-off S q z =
      walked (Some (record { cost = 0; set = S }))
      (rw (q w.tree w.stands) (record { set = ap some z; priced = rw z (sym (weight-none (cost_of costs) (length costs))) }))

-- ---- a branch

-- a side of a decision over v: the code c stands for a tree of later flip-flops
pub record Side (ws costs : List ℕ) (v c : ℕ) : Type 0 where
  pub tree : Tree
  pub stands : Stands ws c tree
  pub ordered : Ordered (suc v) tree
  pub under : Under (length costs) tree

-- the code stands for a decision over v, whose branches have the codes lo and hi
pub record Branching (ws costs : List ℕ) (code v lo hi : ℕ) : Type 0 where
  pub low : Side ws costs v lo
  pub high : Side ws costs v hi
  pub whole : Stands ws code (br v low.tree high.tree)
  pub variable : v < length costs

pub branching : {ws costs : List ℕ} {code : ℕ} {v : Vertex} {lo hi : Node} → Standing ws costs code → LookPromise ws code (Branch v lo hi)
    → Branching ws costs code v.0 lo.0 hi.0
branching {ws} {costs} {code} {v} {lo} {hi} w q =
    let s = q w.tree w.stands in
    let o : Ordered 0 (br v.0 s.0 s.1) = subst (Ordered 0) s.2 w.ordered in
    let u : Under (length costs) (br v.0 s.0 s.1) = subst (Under (length costs)) s.2 w.under in
    record {
      low = record { tree = s.0; stands = s.3; ordered = o.1; under = u.1 };
      high = record { tree = s.1; stands = s.4; ordered = o.2; under = u.2 };
      whole = subst (Stands ws code) s.2 w.stands;
      variable = u.0;
    }

ordered-from : (b : ℕ) (t : Tree) → Ordered b t → Ordered 0 t
ordered-from b off o = tt
ordered-from b on o = tt
ordered-from b (br v l h) o = (omega arith, o.1, o.2)

module _ {ws costs : List ℕ} {code v lo hi : ℕ} (few : length costs ≤ 64) (b : Branching ws costs code v lo hi) where
  -- ---- down a side

  module _ {c : ℕ} (side : Side ws costs v c) where
    pub walk-side : Standing ws costs c
    walk-side =
        record { tree = side.tree; stands = side.stands; ordered = ordered-from (suc v) side.tree side.ordered; under = side.under }

    -- fewer variables remain there
    pub falls-side : remaining ws c < remaining ws code
    falls-side =
        omega (
          arith,
          level-br b.whole,
          level-above {ws = ws} {k = suc v} {c = c} (omega (arith, b.variable, few)) side.stands side.ordered,
          b.variable,
          few,
        )

  -- ---- back up: x and y are the answers for the sides

  -- the best set of the low side lacks v
  pub lacks : (x : prelude.Option Best) → Told (cost_of costs) (length costs) b.low.tree x → Lacks v x
  lacks None t = tt
  lacks (Some k) t =
      let a : Answer (cost_of costs) (length costs) (suc v) (Frees b.low.tree) (some (number k.set)) =
      subst (Answer (cost_of costs) (length costs) (suc v) (Frees b.low.tree)) (sym t.set)
      (best-answer (cost_of costs) (length costs) b.low.tree (suc v) b.low.ordered b.low.under) in
      a.clear v (omega arith)

  -- the second side is walked and v is put into the set of the first where nodes and costs are ws' and costs', the same
  module _ {x y : prelude.Option Best} {ws' costs' : List ℕ} (z r : prelude.Option Best) (e : ws' ≡ ws) (f : costs' ≡ costs) (tx : Walked ws costs lo x)
      (ty : Walked ws' costs' hi y) (hold : (set_of z ≡ held v (set_of x)) × Priced (cost_of costs') (length costs') z) (light : LighterPromise z y r) where
    told-whole : Told (cost_of costs) (length costs) (br v b.low.tree b.high.tree) r
    told-whole =
        let x' = tx b.low.tree b.low.stands in
        let y' = subst₂ (λ a k. Walked a k hi y) e f ty b.high.tree b.high.stands in
        let g = light (cost_of costs) (length costs) (subst (λ k. Priced (cost_of k) (length k) z) f hold.1) y'.priced in
        record {
          set = g.0 ∙ ap₂ (lighter (cost_of costs) (length costs)) (hold.0 ∙ ap (held v) x'.set) y'.set;
          priced = g.1;
        }

    pub walked_whole : Walked ws costs code r
    walked_whole u s = subst (λ a. Told (cost_of costs) (length costs) a r) (stands_one b.whole s) told-whole

    -- its cost can be packed
    pub small-whole : ((u : ℕ) → get_or costs u 0 < 2 ^ 32) → (k : Best) → r ≡ Some k → k.cost < 2 ^ 40
    small-whole h k q =
        let p : k.cost ≡ weight (cost_of costs) (length costs) (number k.set) = subst (Priced (cost_of costs) (length costs)) q told-whole.priced in
        omega (arith, weight-small costs (number k.set) few h)

-- the memo is right after it is written down, where the nodes and the costs are the same as when the answer was found
pub right-after : {ws costs : List ℕ} {code : ℕ} (ws' costs' ms ms' : List ℕ) (k : Best) → ws' ≡ ws → costs' ≡ costs → Walked ws costs code (Some k)
    → BestMemo (cost_of costs') (length costs') ws' ms → Remembered ms ms' code k → BestMemo (cost_of costs') (length costs') ws' ms'
right-after {ws} {costs} {code} ws' costs' ms ms' k e f t m p =
    p (cost_of costs') (length costs') ws' m (subst₂ (λ a b. Walked a b code (Some k)) (sym e) (sym f) t)
