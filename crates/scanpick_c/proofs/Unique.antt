-- Any two results that a promise for C allows are equal, numbers and buffers alike: from what each operation's promise says of two answers. Assumes nothing.
use mathlib.Core.Path.{◌≡◌, sym, ap, ◌∙◌}
use mathlib.Core.List.{List}
use Prim.Native.Nat.{ℕ}
use Rattle.reduction.proofs.Unique.{reduce-unique}
use Rattle.cycles.proofs.Asks.{ask-unique}
use Rattle.picker.proofs.Unique.{pick-unique}
use Rattle.blockfile.proofs.Unique.{read-unique, write-unique}
use Rattle.scanpick_c.specs.Promise.{pick_words, ask_words, reduce_words, read_words, write_words, steps_words, left_words}
use Rattle.scanpick_c.specs.Promise.{PickGives, AskGives, ReduceGives, ReadGives, WriteGives}

-- the same answer gives the same numbers
same : {A : Type 0} (words : A → List ℕ) {a b : A} {x y : List ℕ} → a ≡ b → x ≡ words a → y ≡ words b → x ≡ y
same words e p q = p ∙ ap words e ∙ sym q

pub pick-gives-unique : (rows costs nodes memo nodes₁ memo₁ out₁ nodes₂ memo₂ out₂ : List ℕ) → PickGives rows costs nodes memo nodes₁ memo₁ out₁
    → PickGives rows costs nodes memo nodes₂ memo₂ out₂ → (nodes₁ ≡ nodes₂) × (memo₁ ≡ memo₂) × (out₁ ≡ out₂)
pick-gives-unique rows costs nodes memo nodes₁ memo₁ out₁ nodes₂ memo₂ out₂ p q =
    let e = pick-unique rows costs nodes memo p.0 q.0 nodes₁ nodes₂ memo₁ memo₂ p.1 q.1 in
    (e.1, e.2, same pick_words e.0 p.2 q.2)

pub ask-gives-unique : (rows : List ℕ) (kept : ℕ) (nodes memo nodes₁ memo₁ out₁ nodes₂ memo₂ out₂ : List ℕ) → AskGives rows kept nodes memo nodes₁ memo₁ out₁
    → AskGives rows kept nodes memo nodes₂ memo₂ out₂ → (nodes₁ ≡ nodes₂) × (memo₁ ≡ memo₂) × (out₁ ≡ out₂)
ask-gives-unique rows kept nodes memo nodes₁ memo₁ out₁ nodes₂ memo₂ out₂ p q =
    let e = ask-unique rows kept nodes memo p.0 q.0 nodes₁ nodes₂ memo₁ memo₂ p.1 q.1 in
    (e.1, e.2, same ask_words e.0 p.2 q.2)

pub reduce-gives-unique : (rows costs : List ℕ) (limit : ℕ) (out₁ steps₁ left₁ out₂ steps₂ left₂ : List ℕ) → ReduceGives rows costs limit out₁ steps₁ left₁
    → ReduceGives rows costs limit out₂ steps₂ left₂ → (out₁ ≡ out₂) × (steps₁ ≡ steps₂) × (left₁ ≡ left₂)
reduce-gives-unique rows costs limit out₁ steps₁ left₁ out₂ steps₂ left₂ p q =
    let e : p.answer ≡ q.answer = reduce-unique rows costs limit p.answer q.answer p.promised q.promised in
    (same reduce_words e p.words q.words, same steps_words e p.made q.made, same left_words e p.still q.still)

pub read-gives-unique : (file costs rows costs₁ rows₁ out₁ costs₂ rows₂ out₂ : List ℕ) → ReadGives file costs rows costs₁ rows₁ out₁
    → ReadGives file costs rows costs₂ rows₂ out₂ → (costs₁ ≡ costs₂) × (rows₁ ≡ rows₂) × (out₁ ≡ out₂)
read-gives-unique file costs rows costs₁ rows₁ out₁ costs₂ rows₂ out₂ p q =
    let e = read-unique file costs rows p.0 q.0 costs₁ rows₁ costs₂ rows₂ p.1 q.1 in
    (e.1, e.2, same read_words e.0 p.2 q.2)

pub write-gives-unique : (rows costs file file₁ out₁ file₂ out₂ : List ℕ) → WriteGives rows costs file file₁ out₁ → WriteGives rows costs file file₂ out₂
    → (file₁ ≡ file₂) × (out₁ ≡ out₂)
write-gives-unique rows costs file file₁ out₁ file₂ out₂ p q =
    let e = write-unique rows costs file p.0 q.0 file₁ file₂ p.1 q.1 in
    (e.1, same write_words e.0 p.2 q.2)
