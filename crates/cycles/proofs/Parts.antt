-- A component is built in emptied rooms, and in a part of them first: what stands in a part of the room stands in the room. Assumes nothing.
use mathlib.Core.Path.{◌≡◌, sym, ap, ◌∙◌, subst}
use mathlib.Core.Bool.{Bool}
use mathlib.Core.List.{List, ◌++◌}
use Prim.Native.Nat.{ℕ}
use native.Mathlib.Omega.{arith}
use lib.ListN.{length, take, drop, length-append}
use lib.Seq.{length-take-le, take-length, take-append-le}
use Rattle.std.specs.Prelude.{Result, Ok, Err, IsErr}
use Rattle.std.proofs.lemmas.Bool.{false≢true}
use Rattle.nodes.specs.declared.Full.{Full}
use Rattle.cycles.specs.declared.making.Cycle.{Cycle}
use Rattle.cycles.specs.Work.{BuiltAt, BuildPromise, ComponentPromise}

-- ---- where the function stands

pub part-words : (E : ℕ → ℕ → Bool) (n C : ℕ) (ws : List ℕ) (b : Cycle) → ComponentPromise E n C ws (Ok b) → b.words ≡ length (take b.words ws)
part-words E n C ws b p = sym (length-take-le b.words ws p.0)

-- ---- in the whole room, and in a part of it

module _ (E : ℕ → ℕ → Bool) (n C : ℕ) (ws : List ℕ) where
  pub built-whole : (b : Cycle) → b.words ≡ length ws → BuildPromise E n C ws (Ok b.function) → ComponentPromise E n C ws (Ok b)
  built-whole b e p = (omega (arith, e), subst (λ xs. BuiltAt E n C xs b.function.0) (sym (ap (λ k. take k ws) e ∙ take-length ws)) p)

  pub built-none : (f : Full) → BuildPromise E n C ws (Err f) → (r : Result Cycle Full) → IsErr r → ComponentPromise E n C ws r
  built-none f p (Ok b) e = absurd (false≢true e)
  built-none f p (Err x) e = p

  pub built-part : (k : ℕ) (front : List ℕ) (b : Cycle) → ComponentPromise E n C front (Ok b) → ComponentPromise E n C (front ++ drop k ws) (Ok b)
  built-part k front b d = (
    omega (arith, d.0, length-append front (drop k ws)),
    subst (λ xs. BuiltAt E n C xs b.function.0) (sym (take-append-le b.words front (drop k ws) d.0)) d.1,
  )
