-- The length of a room that is cleared, the words in use as they are counted, and the node room of which the first words are cleared. Assumes nothing.
use mathlib.Core.Path.{◌≡◌, refl, sym, ap, ap₂, ◌∙◌}
use mathlib.Core.Logic.{◌≢◌, ◌⊎◌, inl, inr, ⊎_elim}
use mathlib.Core.List.{List, [], ◌∷◌, ◌++◌}
use Prim.Native.Nat.{ℕ, zero, suc, ◌+◌, ◌≤◌, ◌<◌, min}
use native.Mathlib.Omega.{arith}
use native.Mathlib.Numerals.{add-one}
use lib.ListN.{length, get_or, take, drop, replicate, length-take, length-replicate, drop_of_length-le}
use lib.Seq.{drop_at, length_front}
use Rattle.nodes.specs.Rooms.{capacity, emptied, zeroed, used}
use Rattle.nodes.proofs.Slots.{lt-or-le}

-- ---- cleared

pub zeroed-length : (ws ws' : List ℕ) → ws' ≡ zeroed ws → length ws' ≡ length ws
zeroed-length ws ws' e = ap length e ∙ length-replicate (length ws) 0

-- ---- counted

-- count of the words in use are among the first s
pub record Counting (ws : List ℕ) (count s : ℕ) : Type 0 where
  pub within : s ≤ length ws
  pub fewer : count ≤ s
  pub rest : count + used (drop s ws) ≡ used ws

-- the word at s is in use or not
abbrev Next : List ℕ → ℕ → Type 0
Next ws s =
    ((get_or ws s 0 ≡ 0) × (used (drop s ws) ≡ used (drop (suc s) ws))) ⊎ ((get_or ws s 0 ≢ 0) × (used (drop s ws) ≡ suc (used (drop (suc s) ws))))

used-drop : (ws : List ℕ) (s : ℕ) → s < length ws → Next ws s
unfolding used
used-drop [] s l = absurd (omega arith)
used-drop (zero ∷ ws) zero l = inl (refl, refl)
used-drop (suc w ∷ ws) zero l = inr ((λ e. omega arith), refl)
used-drop (w ∷ ws) (suc s) l = used-drop ws s (omega arith)

pub counting-none : (ws : List ℕ) → Counting ws 0 0
counting-none ws = record { within = omega arith; fewer = omega arith; rest = omega arith }

module _ (ws : List ℕ) (count s : ℕ) (c : Counting ws count s) where
  pub counting-one : s < length ws → get_or ws s 0 ≢ 0 → Counting ws (count + 1) (s + 1)
  counting-one l k = go (used-drop ws s l)
    where
      go : Next ws s → Counting ws (count + 1) (s + 1)
      go (inl e) = absurd (k e.0)
      go (inr e) = rw (add-one s) (record { within = omega arith; fewer = omega (arith, c.fewer); rest = omega (arith, c.rest, e.1) })

  pub counting-skip : s < length ws → get_or ws s 0 ≡ 0 → Counting ws count (s + 1)
  counting-skip l k = go (used-drop ws s l)
    where
      go : Next ws s → Counting ws count (s + 1)
      go (inl e) = rw (add-one s) (record { within = omega arith; fewer = omega (arith, c.fewer); rest = omega (arith, c.rest, e.1) })
      go (inr e) = absurd (e.0 k)

  pub counting-all : length ws ≤ s → count ≡ used ws
  unfolding used
  counting-all l =
      let e : used (drop s ws) ≡ 0 = ap used (drop_of_length-le ws l) in
      omega (arith, c.rest)

-- ---- the node room

-- as many words as count
pub front_length : (ws : List ℕ) (n : ℕ) → n ≡ capacity ws → n ≡ length (take n ws)
front_length ws n e = simp length-take (omega arith)

-- past those that count
past : (ws : List ℕ) (n : ℕ) → n ≡ capacity ws → drop n ws ≡ drop 65536 ws
past ws n e =
    ⊎_elim (λ l. drop_of_length-le ws {i = n} (omega arith) ∙ sym (drop_of_length-le ws {i = 65536} (omega arith)))
    (λ l. let k : n ≡ 65536 = omega arith in ap (λ (i : ℕ). drop i ws) k) (lt-or-le (length ws) 65536)

module _ (ws front : List ℕ) (n : ℕ) (e : n ≡ capacity ws) where
  -- they were lent, and the room is emptied: it holds what it would have held
  pub lent-emptied : length front ≡ length (take n ws) → emptied (front ++ drop n ws) ≡ emptied ws
  lent-emptied f = ap₂ (λ (k : ℕ) xs. replicate (min k 65536) 0 ++ xs) same (sym (past (front ++ drop n ws) n (omega (arith, same))) ∙ drop_at front (drop n ws) n (f ∙ sym (front_length ws n e)) ∙ past ws n e)
    where
      same : length (front ++ drop n ws) ≡ length ws
      same = length_front ws front n f

  -- they are cleared, and the rest is not
  pub emptied-is : front ≡ zeroed (take n ws) → front ++ drop n ws ≡ emptied ws
  emptied-is f = ap₂ ◌++◌ (f ∙ ap (λ (k : ℕ). replicate k 0) (sym (front_length ws n e) ∙ e)) (past ws n e)
