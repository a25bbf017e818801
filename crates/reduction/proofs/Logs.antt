-- A run in the making: the steps made so far, and that the whole run is these and then the run from what is left. Assumes nothing.
use mathlib.Core.Path.{◌≡◌, refl, sym, ap, ◌∙◌}
use mathlib.Core.Logic.{◌⊎◌, ⊎_elim}
use mathlib.Core.List.{List, [], ◌∷◌, ◌++◌, append_assoc, append-nil}
use mathlib.Core.Option.{none, some}
use Prim.Native.Nat.{ℕ, suc, ◌+◌, ◌-◌, ◌≤◌, ◌<◌}
use native.Mathlib.Omega.{arith}
use lib.ListN.{length, set, replicate, length-append}
use Rattle.masks.specs.Sets.{number}
use Rattle.reduction.specs.declared.Step.{Step}
use Rattle.reduction.specs.Rules.{State, Run, next, run}
use Rattle.reduction.specs.Promise.{filled, blank}
use Rattle.reduction.specs.declared.Log.{Log}
use Rattle.reduction.specs.Work.{block, Logged}
use Rattle.reduction.proofs.Runs.{still, after_step, run-zero, run-stop, run_on}

-- a run with steps before it
abbrev onto : List Step → Run → Run
onto done r = record { left = r.left; steps = done ++ r.steps }

-- one step more in a list that is filled up
set_next : (done rest : List Step) (x : Step) → set (done ++ (blank ∷ rest)) (length done) x ≡ (done ++ (x ∷ [])) ++ rest
set_next [] rest x = refl
set_next (d ∷ done) rest x = ap (λ xs. d ∷ xs) (set_next done rest x)

filled_more : (done : List Step) (k : ℕ) (x : Step) → k ≡ length done → k < 64 → set (filled blank done) k x ≡ filled blank (done ++ (x ∷ []))
filled_more done k x e l =
    let room : 64 - length done ≡ suc (64 - length (done ++ (x ∷ []))) = rw length-append (omega arith) in
    rw (room, e) (set_next done (replicate (64 - length (done ++ (x ∷ []))) blank) x)

-- from s, after `count` steps of at most `most`: the block, and the steps
pub record Going (c : ℕ → ℕ) (most : ℕ) (s : State) (now : State) (count : ℕ) (steps : List Step) : Type 0 where
  pub done : List Step
  pub counted : count ≡ length done
  pub within : count ≤ most
  pub kept : steps ≡ filled blank done
  pub rest : run c most s ≡ onto done (run c (most - count) now)

module _ (c : ℕ → ℕ) (most : ℕ) (s : State) where
  pub going-none : (now : State) (steps : List Step) → now ≡ s → steps ≡ replicate 64 blank → Going c most s now 0 steps
  going-none now steps e g =
      record {
        done = [];
        counted = refl;
        within = omega arith;
        kept = g;
        rest = rw e (ap (λ k. run c k s) (omega arith));
      }

  module _ (now : State) (count : ℕ) (steps : List Step) (g : Going c most s now count steps) where
    -- a step is made
    pub going_more : (next_now : State) (x : Step) → count < most → most ≤ 64 → next c now ≡ some (record { after = next_now; step = x })
        → Going c most s next_now (count + 1) (set steps count x)
    going_more next_now x l m h =
        record {
          done = g.done ++ (x ∷ []);
          counted = rw length-append (omega (arith, g.counted));
          within = omega arith;
          kept = ap (λ xs. set xs count x) g.kept ∙ filled_more g.done count x g.counted (omega arith);
          rest = g.rest ∙ ap (onto g.done) further ∙ regroup (run c (most - (count + 1)) next_now);
        }
      where
        further : run c (most - count) now ≡ after_step x (run c (most - (count + 1)) next_now)
        further = ap (λ k. run c k now) (omega arith) ∙ run_on c (most - (count + 1)) now _ h

        regroup : (r : Run) → onto g.done (after_step x r) ≡ onto (g.done ++ (x ∷ [])) r
        regroup r = ap (λ xs. record { left = r.left; steps = xs }) (sym (append_assoc g.done (x ∷ []) r.steps))

    -- the limit is reached, or no rule applies
    pub going_end : (log : Log) (outs : List ℕ) → log.count ≡ count → log.steps ≡ steps → block (number log.live) (number log.forced) outs ≡ now
        → (most ≤ count) ⊎ (next c now ≡ none) → Logged (run c most s) log outs
    going_end log outs e f h over =
        rw whole
        (record {
          count = e ∙ g.counted;
          steps = f ∙ g.kept;
          forced = ap (λ t. t.forced) h;
          live = ap (λ t. t.live) h;
          rows = ap (λ t. t.rows) h;
        })
      where
        ended : run c (most - count) now ≡ still now
        ended = ⊎_elim (λ l. ap (λ k. run c k now) (omega arith) ∙ run-zero c now) (λ h. run-stop c (most - count) now h) over

        whole : run c most s ≡ record { left = now; steps = g.done }
        whole = g.rest ∙ ap (onto g.done) ended ∙ ap (λ xs. record { left = now; steps = xs }) (append-nil g.done)
