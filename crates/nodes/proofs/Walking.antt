-- A walk down from a code, by a kept set: the code that it has come to has the same value there, and its variables are fewer at each step. Assumes nothing.
use mathlib.Core.Path.{◌≡◌, sym, ap, ◌∙◌}
use mathlib.Core.Bool.{Bool, true, false}
use mathlib.Core.List.{List}
use Prim.Native.Nat.{ℕ, suc, ◌-◌, ◌≤◌, ◌<◌}
use native.Mathlib.Omega.{arith}
use Rattle.masks.specs.Sets.{bit, pick}
use Rattle.trees.specs.Tree.{Tree, br, eval, Ordered}
use Rattle.nodes.specs.Codes.{variables, level, Stands, Held, Table}
use Rattle.nodes.specs.Promise.{Shaped, ValuePromise}
use Rattle.nodes.specs.declared.Node.{Node}
use Rattle.masks.specs.declared.Vertex.{Vertex}
use Rattle.nodes.specs.declared.Shape.TheVariants.{Off, On, Branch}
use Rattle.nodes.proofs.Standing.{stands_one, Sides, node-sides, level-br, level-above}

-- ---- one step down

-- a code that looks like a branch: its variable is one of a flip-flop, and fewer remain for its branches
module _ {ws : List ℕ} {c : ℕ} {t : Tree} (T : Table ws) (s : Stands ws c t) (v : Vertex) (low high : Node) (d : Shaped ws (Branch v low high) t) where
  at-branch : Stands ws c (br v.0 d.0 d.1)
  at-branch = rw d.2 at s

  sides : Sides v.0 d.0 d.1
  sides = node-sides T at-branch

  pub branch-variable : v.0 < variables
  branch-variable = sides.variable

  falls : (x : ℕ) (u : Tree) → Stands ws x u → Ordered (suc v.0) u → variables - level ws x < variables - level ws c
  falls x u q o =
      let l : v.0 < variables = sides.variable in
      let g : suc v.0 ≤ level ws x = level-above l q o in
      let e : level ws c ≡ v.0 = level-br at-branch in
      omega arith

  pub falls-high : variables - level ws high.0 < variables - level ws c
  falls-high = falls high.0 d.1 d.4 sides.high

  pub falls-low : variables - level ws low.0 < variables - level ws c
  falls-low = falls low.0 d.0 d.3 sides.low

-- ---- the walk

-- from c to at, where exactly m is kept
pub record Walked (ws : List ℕ) (m c at : ℕ) : Type 0 where
  pub tree : Tree
  pub stands : Stands ws at tree
  pub same : (t : Tree) → Stands ws c t → eval tree m ≡ eval t m

pub walked_none : (ws : List ℕ) (m c : ℕ) → Held ws 0 c → Walked ws m c c
walked_none ws m c h = record { tree = h.tree; stands = h.stands; same = λ t s. ap (λ (x : Tree). eval x m) (stands_one h.stands s) }

module _ {ws : List ℕ} {m c at : ℕ} (k : Walked ws m c at) where
  pub walked-off : Shaped ws Off k.tree → ValuePromise ws c m false
  walked-off e t s = sym (sym (k.same t s) ∙ ap (λ (x : Tree). eval x m) e)

  pub walked_on : Shaped ws On k.tree → ValuePromise ws c m true
  walked_on e t s = sym (sym (k.same t s) ∙ ap (λ (x : Tree). eval x m) e)

  module _ (v : Vertex) (low high : Node) (d : Shaped ws (Branch v low high) k.tree) where
    value-is : (b : Bool) → bit m v.0 ≡ b → eval k.tree m ≡ pick b (eval d.1 m) (eval d.0 m)
    value-is b e = ap (λ (x : Tree). eval x m) d.2 ∙ ap (λ (x : Bool). pick x (eval d.1 m) (eval d.0 m)) e

    pub walked-high : bit m v.0 ≡ true → Walked ws m c high.0
    walked-high e = record { tree = d.1; stands = d.4; same = λ t s. sym (value-is true e) ∙ k.same t s }

    pub walked_low : bit m v.0 ≡ false → Walked ws m c low.0
    walked_low e = record { tree = d.0; stands = d.3; same = λ t s. sym (value-is false e) ∙ k.same t s }
