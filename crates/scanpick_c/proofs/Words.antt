-- Answers as numbers, where the numbers of their sets were asked for. Assumes nothing.
use mathlib.Core.Path.{◌≡◌, sym, ap, ap₂, ◌∙◌}
use mathlib.Core.List.{[], ◌∷◌}
use Prim.Native.Nat.{ℕ}
use Rattle.std.specs.Prelude.{Result, Ok}
use Rattle.masks.specs.Sets.{number}
use Rattle.graphs.specs.declared.refusal.Refusal.{Refusal}
use Rattle.reduction.specs.declared.Reduced.{Reduced}
use Rattle.picker.specs.declared.Picked.{Picked}
use Rattle.scanpick_c.specs.Promise.{pick_words, reduce_words}

pub pick_words-are : (r : Result Picked Refusal) (p : Picked) (w : ℕ) → r ≡ Ok p → w ≡ number p.set → (0 ∷ 0 ∷ w ∷ p.cost ∷ p.need ∷ []) ≡ pick_words r
pick_words-are r p w e f = ap (λ x. 0 ∷ 0 ∷ x ∷ p.cost ∷ p.need ∷ []) f ∙ sym (ap pick_words e)

pub reduce_words-are : (r : Result Reduced Refusal) (p : Reduced) (f l : ℕ) → r ≡ Ok p → f ≡ number p.forced → l ≡ number p.live
    → (0 ∷ 0 ∷ p.count ∷ f ∷ l ∷ []) ≡ reduce_words r
reduce_words-are r p f l e g h = ap₂ (λ x y. 0 ∷ 0 ∷ p.count ∷ x ∷ y ∷ []) g h ∙ sym (ap reduce_words e)
