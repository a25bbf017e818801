-- A run: what each step keeps holds after it; how many steps there are; that it ends with no rule left to apply where the limit is the number of
-- flip-flops or more; and that a higher limit then changes nothing. By one induction on the limit. Assumes nothing.
use mathlib.Core.Path.{◌≡◌, refl, ap, ◌∙◌}
use mathlib.Core.Logic.{◌⊎◌, inl, inr, ⊎_elim}
use mathlib.Core.List.{List, [], ◌∷◌}
use mathlib.Core.Option.{Option, none, some}
use Prim.Native.Nat.{ℕ, zero, suc, ◌+◌, ◌≤◌}
use native.Mathlib.Omega.{arith}
use lib.Count.{ones, ones-ones}
use lib.ListN.{length}
use Rattle.graphs.proofs.Loops.{RowsFit}
use Rattle.reduction.specs.declared.Step.{Step}
use Rattle.reduction.specs.Rules.{State, Move, Run, start, next, run}
use Rattle.reduction.proofs.States.{Sane, start-sane}
use Rattle.reduction.proofs.Next.{Settled, Answered, next-cases, next-fewer, next_sane, used-fewer}

-- a run of no step, and a run with one more step before it
abbrev pub still : State → Run
still s = record { left = s; steps = [] }

abbrev pub after_step : Step → Run → Run
after_step t r = record { left = r.left; steps = t ∷ r.steps }

module _ (c : ℕ → ℕ) where
  -- "a limit of 0"
  pub run-zero : (s : State) → run c 0 s ≡ still s
  unfolding run
  run-zero s = refl

  pub run-stop : (k : ℕ) (s : State) → next c s ≡ none → run c k s ≡ still s
  unfolding run
  run-stop zero s e = refl
  run-stop (suc k) s e = rw (e, run)

  pub run_on : (k : ℕ) (s : State) (m : Move) → next c s ≡ some m → run c (suc k) s ≡ after_step m.step (run c k m.after)
  unfolding run
  run_on k s m e = rw (e, run)

  -- the induction
  pub run-ind : (P : ℕ → State → Run → Type 0) → ((s : State) → P 0 s (still s)) → ((k : ℕ) (s : State) → next c s ≡ none → P (suc k) s (still s))
      → ((k : ℕ) (s : State) (m : Move) (r : Run) → next c s ≡ some m → P k m.after r → P (suc k) s (after_step m.step r))
      → (k : ℕ) (s : State) → P k s (run c k s)
  run-ind P z f g zero s = rw (run-zero s) (z s)
  run-ind P z f g (suc k) s = go (next c s) refl (λ m. run-ind P z f g k m.after)
    where
      go : (o : Option Move) → next c s ≡ o → ((m : Move) → P k m.after (run c k m.after)) → P (suc k) s (run c (suc k) s)
      go none e ih = rw (run-stop (suc k) s e) (f k s e)
      go (some m) e ih = rw (run_on k s m e) (g k s m (run c k m.after) e (ih m))

  -- what every step keeps
  pub run-keeps : (P : State → Type 0) → ((s : State) (m : Move) → next c s ≡ some m → P s → P m.after) → (k : ℕ) (s : State) → P s → P (run c k s).left
  run-keeps P f = run-ind (λ k s r. P s → P r.left) (λ s p. p) (λ k s e p. p) (λ k s m r e ih p. ih (f s m e p))

  -- ---- the number of steps

  pub run-count : (k : ℕ) (s : State) → length (run c k s).steps ≤ k
  run-count = run-ind (λ k s r. length r.steps ≤ k) (λ s. omega arith) (λ k s e. omega arith) (λ k s m r e ih. omega arith)

  -- "does that many steps, fewer only when no rule applies"
  pub run-done : (k : ℕ) (s : State) → (length (run c k s).steps ≡ k) ⊎ (next c (run c k s).left ≡ none)
  run-done =
      run-ind (λ k s r. (length r.steps ≡ k) ⊎ (next c r.left ≡ none)) (λ s. inl refl) (λ k s e. inr e)
      (λ k s m r e ih. ⊎_elim (λ q. inl (ap suc q)) (λ q. inr q) ih)

  module _ (n : ℕ) where
    pub run-sane : (k : ℕ) (s : State) → Sane n s → Sane n (run c k s).left
    run-sane = run-keeps (Sane n) (λ s m e h. next_sane c n s h m e)

    -- each step removes one live flip-flop
    pub run-live : (k : ℕ) (s : State) → Sane n s → length (run c k s).steps + ones (run c k s).left.live ≡ ones s.live
    run-live =
        run-ind (λ k s r. Sane n s → length r.steps + ones r.left.live ≡ ones s.live) (λ s h. omega arith) (λ k s e h. omega arith)
        (λ k s m r e ih h. omega (arith, ih (next_sane c n s h m e), next-fewer c n s h m e))

    -- ---- the end

    none-live : (s : State) → Sane n s → ones s.live ≡ 0 → next c s ≡ none
    none-live s h z = go (next-cases c n s h)
      where
        go : Answered c n s h (next c s) (Settled c s) → next c s ≡ none
        go (inl r) = absurd (omega (arith, used-fewer c s r.0 r.2))
        go (inr r) = r.0

    pub run-over : (k : ℕ) (s : State) → Sane n s → ones s.live ≤ k → next c (run c k s).left ≡ none
    run-over k s h l =
        ⊎_elim (λ e. none-live (run c k s).left (run-sane k s h) (omega (arith, run-live k s h, e))) (λ e. e) (run-done k s)

  -- a run that has ended goes no further
  pub run-longer : (j : ℕ) (s : State) (k : ℕ) → j ≤ k → next c (run c j s).left ≡ none → run c k s ≡ run c j s
  run-longer =
      run-ind (λ j s r. (k : ℕ) → j ≤ k → next c r.left ≡ none → run c k s ≡ r) (λ s k l e. run-stop k s e) (λ j s f k l e. run-stop k s f) further
    where
      further : (j : ℕ) (s : State) (m : Move) (r : Run) → next c s ≡ some m
          → ((k : ℕ) → j ≤ k → next c r.left ≡ none → run c k m.after ≡ r)
          → (k : ℕ) → suc j ≤ k → next c r.left ≡ none → run c k s ≡ after_step m.step r
      further j s m r f ih zero l e = absurd (omega arith)
      further j s m r f ih (suc k) l e = run_on k s m f ∙ ap (after_step m.step) (ih k (omega arith) e)

-- ---- runs of a block as lent

module _ (c : ℕ → ℕ) (rows : List ℕ) (fit : RowsFit rows) where
  pub start-run-sane : (k : ℕ) → Sane (length rows) (run c k (start rows)).left
  start-run-sane k = run-sane c (length rows) k (start rows) (start-sane rows fit)

  -- "after at most n steps"
  pub start-run-count : (k : ℕ) → length (run c k (start rows)).steps ≤ length rows
  start-run-count k = omega (arith, run-live c (length rows) k (start rows) (start-sane rows fit), ones-ones (length rows))

  -- "Full reduction ends when no rule applies"
  pub run_ends : (k : ℕ) → length rows ≤ k → next c (run c k (start rows)).left ≡ none
  run_ends k l = run-over c (length rows) k (start rows) (start-sane rows fit) (omega (arith, ones-ones (length rows)))

  -- "a limit of n or more is full reduction"
  pub run_more : (k : ℕ) → length rows ≤ k → run c k (start rows) ≡ run c (length rows) (start rows)
  run_more k l = run-longer c (length rows) (start rows) k l (run_ends (length rows) (omega arith))
