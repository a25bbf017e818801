-- What the promises allow is one answer: two answers to the same input, with what the lent buffers hold afterwards, are equal. By the cases of the two
-- answers. Assumes nothing.
use Rattle.std.specs.Prelude.{Ok, Err}
use Rattle.blockfile.specs.Promise.{Answer}
use mathlib.Core.Path.{◌≡◌, sym, ap, ◌∙◌}
use mathlib.Core.List.{List, ◌++◌}
use mathlib.Core.Option.{Option, none, some}
use Prim.Native.Nat.{ℕ}
use native.Mathlib.Omega.{arith}
use lib.ListN.{drop}
use Rattle.graphs.specs.declared.refusal.Refusal.{Refusal}
use Rattle.blockfile.specs.Layout.{layout, file_costs, file_rows}
use Rattle.graphs.specs.Refusals.{refusal_of}
use Rattle.blockfile.specs.Promise.{HeaderValue, ReadEffect, WriteEffect}
use Rattle.blockfile.specs.Promise.{HeaderPromise, ReadPromise, WritePromise}

-- a refusal is none
pub some-none : {r : Refusal} → ◌≡◌ {A = Option Refusal} (some r) none → ⊥
some-none e = let z : ◌≡◌ {A = ℕ} 0 1 = cc in omega arith

-- two refusals given are the same
same_some : {r s : Refusal} → ◌≡◌ {A = Option Refusal} (some r) (some s) → r ≡ s
same_some e = cc

-- ---- a header

pub header-unique : (file : List ℕ) (a b : Answer) → HeaderPromise file a → HeaderPromise file b → a ≡ b
header-unique file a b p q = go a b (p.refusal ∙ sym q.refusal) p.value q.value
  where
    go : (a b : Answer) → refusal_of a ≡ refusal_of b → HeaderValue file a → HeaderValue file b → a ≡ b
    go (Ok m) (Ok n) e v w = ap Ok (v ∙ sym w)
    go (Ok m) (Err s) e v w = absurd (some-none (sym e))
    go (Err r) (Ok n) e v w = absurd (some-none e)
    go (Err r) (Err s) e v w = ap Err (same_some e)

-- ---- the reader

pub read-unique : (file costs rows : List ℕ) (a b : Answer) (costs₁ rows₁ costs₂ rows₂ : List ℕ) → ReadPromise file costs rows a costs₁ rows₁
    → ReadPromise file costs rows b costs₂ rows₂ → (a ≡ b) × (costs₁ ≡ costs₂) × (rows₁ ≡ rows₂)
read-unique file costs rows a b costs₁ rows₁ costs₂ rows₂ p q = go a b (p.refusal ∙ sym q.refusal) p.effect q.effect
  where
    go : (a b : Answer) → refusal_of a ≡ refusal_of b → ReadEffect file costs rows a costs₁ rows₁ → ReadEffect file costs rows b costs₂ rows₂
        → (a ≡ b) × (costs₁ ≡ costs₂) × (rows₁ ≡ rows₂)
    go (Ok m) (Ok n) e f g =
        let d : m ≡ n = f.0 ∙ sym g.0 in (
          ap Ok d,
          f.1 ∙ ap (λ (i : ℕ). file_costs file ++ drop i costs) d ∙ sym g.1,
          f.2 ∙ ap (λ (i : ℕ). file_rows file ++ drop i rows) d ∙ sym g.2,
        )
    go (Ok m) (Err s) e f g = absurd (some-none (sym e))
    go (Err r) (Ok n) e f g = absurd (some-none e)
    go (Err r) (Err s) e f g = (ap Err (same_some e), f.0 ∙ sym g.0, f.1 ∙ sym g.1)

-- ---- the writer

pub write-unique : (rows costs out : List ℕ) (a b : Answer) (out₁ out₂ : List ℕ) → WritePromise rows costs out a out₁
    → WritePromise rows costs out b out₂ → (a ≡ b) × (out₁ ≡ out₂)
write-unique rows costs out a b out₁ out₂ p q = go a b (p.refusal ∙ sym q.refusal) p.effect q.effect
  where
    go : (a b : Answer) → refusal_of a ≡ refusal_of b → WriteEffect rows costs out a out₁ → WriteEffect rows costs out b out₂
        → (a ≡ b) × (out₁ ≡ out₂)
    go (Ok m) (Ok n) e f g =
        let d : m ≡ n = f.0 ∙ sym g.0 in
        (ap Ok d, f.1 ∙ ap (λ (i : ℕ). layout costs rows ++ drop i out) d ∙ sym g.1)
    go (Ok m) (Err s) e f g = absurd (some-none (sym e))
    go (Err r) (Ok n) e f g = absurd (some-none e)
    go (Err r) (Err s) e f g = (ap Err (same_some e), f ∙ sym g)
