-- What loops over flip-flops know after i of them: rows that are set one after the other. One turn sets a row, and what a walk from one member to the next passes
-- over changes nothing. Assumes nothing.
use mathlib.Core.Path.{◌≡◌, refl, sym, ◌∙◌, subst}
use mathlib.Core.Logic.{◌≢◌}
use mathlib.Core.List.{List}
use Prim.Native.Nat.{ℕ, ◌+◌, ◌≤◌, ◌<◌}
use native.Mathlib.Omega.{arith}
use native.Mathlib.Decide.{ℕ_discrete, dec_lt}
use lib.ListN.{length, get_or, set, length-set}
use lib.Seq.{get_or-set_same, get_or-set_other}

-- ---- rows, set one after the other: those below i are as they should be, the others as they were

pub record Rowed (P : ℕ → ℕ → Type 0) (old : List ℕ) (i : ℕ) (rows : List ℕ) : Type 0 where
  pub long : length rows ≡ length old
  pub done : (u : ℕ) → u < i → P u (get_or rows u 0)
  pub rest : (u : ℕ) → i ≤ u → get_or rows u 0 ≡ get_or old u 0

pub rowed-none : (P : ℕ → ℕ → Type 0) (old : List ℕ) → Rowed P old 0 old
rowed-none P old = record { long = refl; done = λ u l. absurd (omega arith); rest = λ u l. refl }

-- one that is set
pub rowed-set : (P : ℕ → ℕ → Type 0) (old : List ℕ) (i : ℕ) (rows next : List ℕ) (x : ℕ) → i < length old → P i x → next ≡ set rows i x → Rowed P old i rows
    → Rowed P old (i + 1) next
rowed-set P old i rows next x l p q r =
    subst (Rowed P old (i + 1)) (sym q) (record { long = length-set rows i x ∙ r.long; done = λ u k. done u k (ℕ_discrete u i); rest = rest })
  where
    here : P i (get_or (set rows i x) i 0)
    here = subst (P i) (sym (get_or-set_same rows i x 0 (omega (arith, r.long)))) p

    done : (u : ℕ) → u < i + 1 → Dec (u ≡ i) → P u (get_or (set rows i x) u 0)
    done u k (yes e) = subst (λ z. P z (get_or (set rows i x) z 0)) (sym e) here
    done u k (no e) =
        let e' : u ≢ i = e in
        subst (P u) (sym (get_or-set_other rows i u x 0 e)) (r.done u (omega arith))

    rest : (u : ℕ) → i + 1 ≤ u → get_or (set rows i x) u 0 ≡ get_or old u 0
    rest u k = get_or-set_other rows i u x 0 (omega arith) ∙ r.rest u (omega arith)

-- those that stay
pub rowed-skip : (P : ℕ → ℕ → Type 0) (old : List ℕ) (i j : ℕ) (rows : List ℕ) → i ≤ j → ((u : ℕ) → i ≤ u → u < j → P u (get_or old u 0)) → Rowed P old i rows
    → Rowed P old j rows
rowed-skip P old i j rows l h r = record { long = r.long; done = λ u k. done u k (dec_lt u i); rest = λ u k. r.rest u (omega arith) }
  where
    done : (u : ℕ) → u < j → Dec (u < i) → P u (get_or rows u 0)
    done u k (yes q) = r.done u q
    done u k (no q) =
        let q' : ¬ (u < i) = q in
        subst (P u) (sym (r.rest u (omega arith))) (h u (omega arith) k)

pub rowed-all : (P : ℕ → ℕ → Type 0) (old : List ℕ) (i : ℕ) (rows : List ℕ) → ((u : ℕ) → i ≤ u → P u (get_or old u 0)) → Rowed P old i rows
    → (u : ℕ) → P u (get_or rows u 0)
rowed-all P old i rows h r u = go (dec_lt u i)
  where
    go : Dec (u < i) → P u (get_or rows u 0)
    go (yes q) = r.done u q
    go (no q) =
        let q' : ¬ (u < i) = q in
        subst (P u) (sym (r.rest u (omega arith))) (h u (omega arith))
