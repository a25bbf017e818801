-- The question asked of some blocks: what the model computes, and so what every answer that the promise allows is. Assumes nothing.
use mathlib.Core.Path.{◌≡◌, refl}
use mathlib.Core.List.{List, [], ◌∷◌}
use Prim.Native.Nat.{ℕ}
use native.Mathlib.Decide.{ℕ_discrete}
use lib.Count.{ones}
use lib.ListN.{replicate}
use Rattle.masks.specs.Sets.{bit, put, cut, those, lowest}
use Rattle.graphs.specs.Graph.{edge, plain_from}
use Rattle.graphs.proofs.Reach.{through, closure}
use Rattle.graphs.specs.Coming.{around, leads, leading}
use Rattle.graphs.proofs.Components.{components_of}
use Rattle.trees.specs.Tree.{join_t, join_br, mk}
use Rattle.cycles.specs.Search.{targets, visit}
use Rattle.cycles.specs.Passes.{any, each}
use Rattle.cycles.specs.declared.Asked.{Asked}
use Rattle.std.specs.Prelude.{Result, Err, true, false}
use Rattle.graphs.proofs.Tables.{refusal_at}
use Rattle.graphs.specs.declared.refusal.Refusal.{Refusal}
use Rattle.cycles.specs.Work.{targets_l, visit_l}
use Rattle.cycles.proofs.Logs.{order_of}
use Rattle.cycles.proofs.PassTrees.{table, ors_after_t, ors_t, or_from, product_t, fill, at_flop_t, run, listed_t, result_t}
use Rattle.cycles.proofs.Models.{run_of, functions_after, cycle_after, need_after}
use Rattle.cycles.proofs.Fits.{fitting}
use Rattle.cycles.proofs.Asks.{asked_with, holds_t, ask_model}

-- block A: edges 0>1, 1>2, 2>0, 2>3, 3>1
abbrev pub block_a : List ℕ
block_a = 2 ∷ 4 ∷ 9 ∷ 2 ∷ []

-- A and a copy at 4 to 7
abbrev pub block_aa : List ℕ
block_aa = 2 ∷ 4 ∷ 9 ∷ 2 ∷ 32 ∷ 64 ∷ 144 ∷ 32 ∷ []

-- yes or no, with the largest need; or a refusal by its number and place
abbrev pub yes_with : ℕ → Result Asked Refusal
yes_with need = asked_with true need

abbrev pub no_with : ℕ → Result Asked Refusal
no_with need = asked_with false need

abbrev pub refused : ℕ → ℕ → Result Asked Refusal
refused number place = Err (refusal_at number place)

pub record Answers : Type 0 where
  -- "Ask A, kept {1, 2}: no. Kept {0, 1, 2}: yes (room 4,096)", with the need 15
  pub a-no : ask_model block_a 6 4096 ≡ no_with 15
  pub a-yes : ask_model block_a 7 4096 ≡ yes_with 15
  -- room 15 is enough, 14 is not
  pub a-full : ask_model block_a 7 15 ≡ yes_with 15
  pub a-full-no : ask_model block_a 6 15 ≡ no_with 15
  pub a_small : ask_model block_a 7 14 ≡ refused 4 0
  -- a block whose need one more pass would raise to 9, and two copies of A
  pub last-pass : ask_model (2 ∷ 5 ∷ 3 ∷ []) 7 8 ≡ yes_with 8
  pub two-parts : ask_model block_aa 224 15 ≡ yes_with 15
  pub two-parts-no : ask_model block_aa 102 15 ≡ no_with 15
  -- four flip-flops without edges
  pub no_edges : ask_model (0 ∷ 0 ∷ 0 ∷ 0 ∷ []) 6 15 ≡ no_with 0
  -- no flip-flops, and one with an edge to itself
  pub empty : ask_model [] 0 0 ≡ no_with 0
  pub self-edge : ask_model (1 ∷ []) 1 0 ≡ no_with 0
  -- 65 rows; a row with a bit at the number of rows; a kept mask with one
  pub many : ask_model (replicate 65 0) 0 4096 ≡ refused 1 0
  pub wide_row : ask_model (2 ∷ 4 ∷ 9 ∷ 16 ∷ []) 6 4096 ≡ refused 3 3
  pub wide-kept : ask_model block_a 16 4096 ≡ refused 9 0

-- all that a computed answer goes through: a proof that names one of these unfolds what its line names
unfoldable pub graph-computed : Unit {0}
unfolding bit put cut those lowest ones edge plain_from through closure around leads leading components_of any each targets visit targets_l visit_l order_of
graph-computed = tt

unfoldable pub trees-computed : Unit {0}
unfolding ℕ_discrete mk join_br join_t table ors_after_t ors_t or_from product_t fill at_flop_t run listed_t result_t run_of functions_after cycle_after need_after
trees-computed = tt

unfoldable pub computed : Unit {0}
unfolding graph-computed trees-computed fitting holds_t ask_model
computed = tt

pub answers : Answers
unfolding computed
answers =
    record {
      a-no = refl;
      a-yes = refl;
      a-full = refl;
      a-full-no = refl;
      a_small = refl;
      last-pass = refl;
      two-parts = refl;
      two-parts-no = refl;
      no_edges = refl;
      empty = refl;
      self-edge = refl;
      many = refl;
      wide_row = refl;
      wide-kept = refl;
    }
