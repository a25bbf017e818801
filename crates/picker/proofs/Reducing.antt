-- The pick by reduction: what the full reduction of a block that passes the checks leaves is fit for the components, and their answer for it, with the forced
-- set, is the answer for the block as lent. Assumes nothing.
use mathlib.Core.Path.{◌≡◌, sym, ap, ◌∙◌, subst}
use mathlib.Core.List.{List}
use Prim.Native.Nat.{ℕ, ◌-◌, ◌≤◌}
use native.Mathlib.Omega.{arith}
use lib.Bits.{bit_or}
use lib.ListN.{length, take, replicate, length-append}
use lib.Seq.{take_at, length-take-le}
use Rattle.std.specs.Prelude.{Ok, Err}
use Rattle.masks.specs.Sets.{number, weight}
use Rattle.masks.specs.declared.Mask.{Mask}
use Rattle.graphs.specs.Graph.{edge, cost_of}
use Rattle.graphs.specs.Light.{Lightest}
use Rattle.graphs.specs.Refusals.{place_of}
use Rattle.graphs.specs.declared.refusal.Refusal.{Refusal}
use Rattle.graphs.specs.Work.{Sound}
use Rattle.graphs.proofs.Tables.{Checks, checks-passed}
use Rattle.reduction.specs.Rules.{State, start, run}
use Rattle.reduction.specs.Promise.{Returned, ReducePromise}
use Rattle.reduction.specs.declared.Reduced.{Reduced}
use Rattle.reduction.proofs.Runs.{run_more}
use Rattle.reduction.proofs.Sound.{full-lightest}
use Rattle.cycles.specs.Needs.{Answered, TooLarge}
use Rattle.picker.specs.Promise.{left_rows, Right, PickAnswer}
use Rattle.picker.specs.Work.{GraphRight, GraphPromise}
use Rattle.picker.specs.declared.components.Found.{Found}
use Rattle.picker.proofs.Picks.{reduced, sane, reduced-fits, reduced-live}

-- the full reduction of a block that passes the checks
module _ (rows costs : List ℕ) (answer : Reduced) (r : ReducePromise rows costs 64 (Ok answer)) where
  passed : Checks rows (length costs)
  passed = checks-passed rows (length costs) (sym r.0)

  abbrev s : State
  s = reduced (cost_of costs) rows

  many : length (left_rows rows costs) ≡ length rows
  many = (sane (cost_of costs) rows passed.fit).many

  -- 64 steps are full reduction
  full : Returned (run (cost_of costs) (length rows) (start rows)) answer
  full = subst (λ x. Returned x answer) (run_more (cost_of costs) rows passed.fit 64 passed.few) r.1

  pub few-costs : length costs ≤ 64
  few-costs = omega (arith, passed.few, passed.even)

  pub rows_long : length rows ≤ length answer.rows
  rows_long = omega (arith, ap length full.rows, length-append (left_rows rows costs) (replicate (64 - length (left_rows rows costs)) 0), many)

  rows_left : take (length rows) answer.rows ≡ left_rows rows costs
  rows_left = ap (take (length rows)) full.rows ∙ take_at (left_rows rows costs) _ (length rows) many

  pub rows-part : length rows ≡ length (take (length rows) answer.rows)
  rows-part = sym (length-take-le (length rows) answer.rows rows_long)

  pub sound-left : Sound (take (length rows) answer.rows)
  sound-left = rw rows_left (record { few = omega (arith, many, passed.few); fit = reduced-fits (cost_of costs) rows passed.fit })

  -- ---- the answers

  pub picked-right : (capacity : ℕ) (found : Found) (set : Mask) (cost : ℕ) → GraphPromise (take (length rows) answer.rows) costs capacity (Ok found)
      → number set ≡ bit_or (number answer.forced) (number found.set) → cost ≡ weight (cost_of costs) (length costs) (number set)
      → Right rows costs capacity (number set) cost found.need
  picked-right capacity found set cost h e f =
      record {
        lightest =
            subst (λ R. Lightest (cost_of costs) (length rows) (λ Q. Unit {0}) (edge rows) R)
            (sym (e ∙ ap (λ x. bit_or x (number found.set)) full.forced)) whole;
        total = f ∙ ap (λ n. weight (cost_of costs) n (number set)) passed.even;
        largest = subst (λ n. Answered (edge (left_rows rows costs)) n capacity found.need) many a.largest;
      }
    where
      a : GraphRight (left_rows rows costs) costs capacity (number found.set) found.need
      a = subst (λ xs. GraphRight xs costs capacity (number found.set) found.need) rows_left h

      b : Lightest (cost_of costs) (length rows) (λ R. Unit {0}) (edge (left_rows rows costs)) (number found.set)
      b = subst (λ n. Lightest (cost_of costs) n (λ R. Unit {0}) (edge (left_rows rows costs)) (number found.set)) many a.lightest

      whole : Lightest (cost_of costs) (length rows) (λ R. Unit {0}) (edge rows) (bit_or s.forced (number found.set))
      whole =
          full-lightest (cost_of costs) rows passed.fit (length rows) (number found.set) (omega arith)
          (record {
            fits = b.fits;
            allowed = λ v t. let w = a.linked v t in reduced-live (cost_of costs) rows passed.fit v w.0 w.1;
            meets = b.meets;
            least = λ R l w m. b.least R l tt m;
          })

  pub picked-large : (capacity : ℕ) (x : Refusal) → GraphPromise (take (length rows) answer.rows) costs capacity (Err x) → PickAnswer rows costs capacity (Err x)
  picked-large capacity x h = (
    h.0,
    subst (λ n. TooLarge (edge (left_rows rows costs)) n capacity (place_of x)) many
        (subst (λ xs. TooLarge (edge xs) (length xs) capacity (place_of x)) rows_left h.1),
  )
