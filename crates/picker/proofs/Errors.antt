-- Errors that look right: what each of them would pick is not the right set. Where it comes from costs that are not compared or from too few passes, that
-- the error yields it is computed too. Assumes nothing.
use mathlib.Core.Path.{◌≡◌, refl, sym, ap, ◌∙◌}
use mathlib.Core.Logic.{◌≢◌, ◌⊎◌, inl, inr}
use mathlib.Core.Bool.{Bool}
use mathlib.Core.List.{List, [], ◌∷◌}
use mathlib.Core.Option.{Option, none, some}
use Prim.Native.Nat.{ℕ, ◌%◌, ◌^◌}
use native.Mathlib.Omega.{arith}
use lib.Count.{ones}
use lib.Dec.{T}
use lib.ListN.{length}
use Rattle.masks.specs.Sets.{weight}
use Rattle.masks.proofs.Bits.{bit-zero}
use Rattle.graphs.specs.Graph.{edge, Loop, cost_of}
use Rattle.graphs.specs.Light.{left, Meets, Lightest}
use Rattle.graphs.specs.Components.{every}
use Rattle.graphs.specs.Refusals.{first, checks}
use Rattle.graphs.proofs.Walks.{widen}
use Rattle.graphs.proofs.Loops.{loop-iff}
use Rattle.graphs.proofs.Lightest.{lightest-unique}
use Rattle.graphs.proofs.Components.{components_of, components-found}
use Rattle.graphs.proofs.Tables.{checks-passed}
use Rattle.trees.specs.Best.{best}
use Rattle.cycles.specs.Search.{back_of}
use Rattle.cycles.proofs.Each.{each-ones}
use Rattle.cycles.proofs.Models.{cycle_after}
use Rattle.cycles.proofs.Blocks.{block_a}
use Rattle.picker.specs.Promise.{left_rows, Right}
use Rattle.picker.proofs.Picks.{reduced, reduced-fits, best-pick}
use Rattle.picker.proofs.Model.{chosen}
use Rattle.picker.proofs.Computing.{computing}
use Rattle.picker.proofs.Blocks.{pair, costs_a}

-- ---- the right set

-- the set that the model picks, of a valid block
abbrev pub set_of : List ℕ → List ℕ → ℕ
set_of rows costs = chosen (cost_of costs) (length rows) (reduced (cost_of costs) rows) (components_of (left_rows rows costs))

module _ (rows costs : List ℕ) (valid : first (checks rows (length costs)) ≡ none) where
  pub set-lightest : Lightest (cost_of costs) (length rows) (λ S. Unit {0}) (edge rows) (set_of rows costs)
  set-lightest =
      let fit = (checks-passed rows (length costs) valid).fit in
      best-pick (cost_of costs) rows fit (components_of (left_rows rows costs))
      (components-found (left_rows rows costs) (reduced-fits (cost_of costs) rows fit))

  -- so no other set is right, whatever room is lent, and whatever cost and need are told with it
  pub other-wrong : (S : ℕ) → S ≢ set_of rows costs → (room cost need : ℕ) → Right rows costs room S cost need → ⊥
  other-wrong S k room cost need r = k (lightest-unique r.lightest set-lightest)

-- no set, where there is a loop
pub empty-wrong : (rows costs : List ℕ) (room cost need : ℕ) → Loop (edge rows) every → Right rows costs room 0 cost need → ⊥
empty-wrong rows costs room cost need l r =
    let p = (loop-iff (edge rows) every).0 l in
    r.lightest.meets ((loop-iff (edge rows) (left 0)).1 (p.0, widen (λ v k. rw (bit-zero v) tt) (λ u w e. e) p.1))

-- the loop 0 1
there_and_back : (rows : List ℕ) → T (edge rows 0 1) → T (edge rows 1 0) → Loop (edge rows) every
there_and_back rows p q = record { first = 0; rest = 1 ∷ []; differ = ((λ o. apart o), ((λ o. o), tt)); chain = (tt, p, (tt, q)) }
  where
    apart : (◌≡◌ {A = ℕ} 0 1) ⊎ ⊥ → ⊥
    apart (inl e) = omega arith
    apart (inr e) = e

-- ---- folding without comparing costs

-- "A would yield {1}, cost 5": what is picked where all costs are taken for equal
pub record Blind : Type 0 where
  pub yields : set_of block_a (1 ∷ 1 ∷ 1 ∷ 1 ∷ []) ≡ 2
  pub cost : weight (cost_of costs_a) 4 2 ≡ 5
  pub wrong : (room cost need : ℕ) → Right block_a costs_a room 2 cost need → ⊥

pub no-comparing : Blind
unfolding computing
no-comparing =
    record {
      yields = refl;
      cost = refl;
      wrong = other-wrong block_a costs_a refl 2 (λ (e : ◌≡◌ {A = ℕ} 2 9). omega arith);
    }

-- ---- too few passes

-- what is found in the component C of E after k passes, whatever the size of B
abbrev pub after_passes : ℕ → (ℕ → ℕ) → (ℕ → ℕ → Bool) → ℕ → ℕ → Option ℕ
after_passes k c E n C = best c n (cycle_after E n C k)

-- what the reduction leaves of A: 0>1, 1>0, 1>3, 3>1, with B = {1, 3}
abbrev left_a : ℕ → ℕ → Bool
left_a = edge (left_rows block_a costs_a)

-- "A after one pass would yield {1, 3}, cost 6", and two passes yield {0, 3}
pub record OnePass : Type 0 where
  pub parts : components_of (left_rows block_a costs_a) ≡ 11 ∷ []
  pub size : ones (back_of left_a 4 11) ≡ 2
  pub one : after_passes 1 (cost_of costs_a) left_a 4 11 ≡ some 10
  pub cost : weight (cost_of costs_a) 4 10 ≡ 6
  pub two : after_passes 2 (cost_of costs_a) left_a 4 11 ≡ some 9
  pub wrong : (room cost need : ℕ) → Right block_a costs_a room 10 cost need → ⊥

pub single-pass : OnePass
unfolding computing
single-pass =
    record {
      parts = refl;
      size = refl;
      one = refl;
      cost = refl;
      two = refl;
      wrong = other-wrong block_a costs_a refl 10 (λ (e : ◌≡◌ {A = ℕ} 10 9). omega arith);
    }

-- ---- a pass count in four bits

-- 17 flip-flops, all edges both ways
abbrev pub all17 : List ℕ
all17 =
    131070 ∷ 131069 ∷ 131067 ∷ 131063 ∷ 131055 ∷ 131039 ∷ 131007 ∷ 130943 ∷ 130815 ∷ 130559 ∷ 130047 ∷ 129023 ∷ 126975 ∷ 122879 ∷ 114687 ∷ 98303 ∷ 65535 ∷ []

-- "the block of 17 gets no pass, and an empty set": B has 16 members, a count of 16 is 0 in four bits, and after no pass there is no set
pub record FourBits : Type 0 where
  pub parts : components_of all17 ≡ 131071 ∷ []
  pub size : ones (back_of (edge all17) 17 131071) ≡ 16
  pub count : 16 % 2 ^ 4 ≡ 0
  pub nothing : (costs : List ℕ) → after_passes 0 (cost_of costs) (edge all17) 17 131071 ≡ none
  pub wrong : (costs : List ℕ) (room cost need : ℕ) → Right all17 costs room 0 cost need → ⊥

pub four-bits : FourBits
unfolding computing
four-bits =
    record {
      parts = refl;
      size = let e : back_of (edge all17) 17 131071 ≡ 131070 = refl in ap ones e ∙ sym (each-ones 17 131070 (omega arith));
      count = refl;
      nothing = λ costs. refl;
      wrong = λ costs room cost need. empty-wrong all17 costs room cost need (there_and_back all17 tt tt);
    }

-- ---- dropping a self edge made by folding

-- "the two-flip-flop block yields nothing"
pub self-edge-dropped : (room cost need : ℕ) → Right pair (5 ∷ 5 ∷ []) room 0 cost need → ⊥
unfolding computing
self-edge-dropped room cost need = empty-wrong pair (5 ∷ 5 ∷ []) room cost need (there_and_back pair tt tt)

-- ---- comparing costs only

-- "the answer then turns on the order of work": {1} meets every loop of 0>1, 1>0 too and costs as much as {0}, and is not right
pub record Tie : Type 0 where
  pub meets : Meets (edge pair) 2
  pub even : weight (cost_of (5 ∷ 5 ∷ [])) 2 2 ≡ weight (cost_of (5 ∷ 5 ∷ [])) 2 1
  pub wrong : (room cost need : ℕ) → Right pair (5 ∷ 5 ∷ []) room 2 cost need → ⊥

pub costs-only : Tie
unfolding computing
costs-only =
    record {
      meets = (set-lightest pair (5 ∷ 4 ∷ []) refl).meets;
      even = refl;
      wrong = other-wrong pair (5 ∷ 5 ∷ []) refl 2 (λ (e : ◌≡◌ {A = ℕ} 2 1). omega arith);
    }
