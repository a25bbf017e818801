-- The steps of a reduction as numbers: a step's number case by case, the list read at a place, and that every step of an answer is small, by the induction
-- on a run. Assumes nothing.
use mathlib.Core.Path.{◌≡◌, refl, sym, ap, subst}
use mathlib.Core.List.{List, [], ◌∷◌, map}
use mathlib.Core.Option.{none}
use Prim.Native.Nat.{ℕ, zero, suc, ◌+◌, ◌-◌, ◌*◌, ◌≤◌, ◌<◌}
use native.Mathlib.Omega.{arith}
use lib.ListN.{length, get_or, replicate}
use Rattle.std.specs.Prelude.{All}
use Rattle.std.proofs.lemmas.List.Elements.{All-nil, All-cons, All-append, All-replicate}
use Rattle.masks.specs.declared.Vertex.{Vertex}
use Rattle.graphs.specs.Graph.{cost_of}
use Rattle.graphs.specs.Refusals.{first, checks}
use Rattle.graphs.proofs.Tables.{checks-passed}
use Rattle.reduction.specs.declared.Step.{Step}
use Rattle.reduction.specs.declared.Done.{Done}
use Rattle.reduction.specs.declared.Done.TheVariants.{Folded}
use Rattle.reduction.specs.declared.Reduced.{Reduced}
use Rattle.reduction.specs.Rules.{State, Move, start, run}
use Rattle.reduction.specs.Promise.{blank, Returned}
use Rattle.reduction.proofs.States.{Sane, start-sane, live-lt}
use Rattle.reduction.proofs.Next.{Used, by1, by2-in, by2-out, by3, by4, next-used, next_sane}
use Rattle.reduction.proofs.Runs.{run-ind}
use Rattle.scanpick_c.specs.Promise.{kind, neighbour, step_word}
use Rattle.scanpick_c.specs.Work.{Small}

-- ---- a step's number

pub step-word-at : (s : Step) (d : Done) → s.done ≡ d → step_word s ≡ s.vertex.0 + 256 * kind d + 65536 * neighbour d
step-word-at s d e = ap (λ x. s.vertex.0 + 256 * kind x + 65536 * neighbour x) e

pub folded-small : (s : Step) (u : Vertex) → s.done ≡ Folded u → Small s → u.0 < 64
folded-small s u e h = subst (λ d. neighbour d < 64) e h.beside

-- ---- a list at a place, whatever stands for one past its end

pub words-at : (steps : List Step) (i : ℕ) (d : Step) → i < length steps → step_word (get_or steps i d) ≡ get_or (map step_word steps) i 0
words-at [] i d l = absurd (omega arith)
words-at (s ∷ ss) zero d l = refl
words-at (s ∷ ss) (suc i) d l = words-at ss i d (omega arith)

-- ---- all steps of an answer are small

module _ (c : ℕ → ℕ) (n : ℕ) (few : n ≤ 64) where
  used-small : (s : State) (m : Move) → Sane n s → Used c s m → Small m.step
  used-small s m h (by1 v l t e) = rw e (record { flop = omega (arith, live-lt n s h v l); beside = omega arith })
  used-small s m h (by2-in v l t e) = rw e (record { flop = omega (arith, live-lt n s h v l); beside = omega arith })
  used-small s m h (by2-out v l t e) = rw e (record { flop = omega (arith, live-lt n s h v l); beside = omega arith })
  used-small s m h (by3 u v k l t d e) = rw e (record { flop = omega (arith, live-lt n s h v l); beside = omega (arith, live-lt n s h u k) })
  used-small s m h (by4 u v k l t d e) = rw e (record { flop = omega (arith, live-lt n s h v l); beside = omega (arith, live-lt n s h u k) })

  run_small : (k : ℕ) (s : State) → Sane n s → All Small (run c k s).steps
  run_small =
      run-ind c (λ k s r. Sane n s → All Small r.steps) (λ s h. All-nil Small) (λ k s e h. All-nil Small)
      (λ k s m r e ih h. All-cons Small m.step r.steps (used-small s m h (next-used c n s h m e)) (ih (next_sane c n s h m e)))

pub answer-small : (rows costs : List ℕ) (limit : ℕ) (answer : Reduced) → first (checks rows (length costs)) ≡ none
    → Returned (run (cost_of costs) limit (start rows)) answer → All Small answer.steps
answer-small rows costs limit answer e p =
    let q = checks-passed rows (length costs) e in
    let steps = (run (cost_of costs) limit (start rows)).steps in
    let past : Small blank = record { flop = omega arith; beside = omega arith } in
    subst (All Small) (sym p.steps)
    (All-append Small steps (replicate (64 - length steps) blank) (run_small (cost_of costs) (length rows) q.few limit (start rows) (start-sane rows q.fit))
    (All-replicate Small (64 - length steps) blank past))
