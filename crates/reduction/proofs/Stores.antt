-- Rows that were set one after the other, when all are set: the list that they are. Assumes nothing.
use mathlib.Core.Path.{◌≡◌, sym, ◌∙◌, subst}
use mathlib.Core.List.{List, map}
use Prim.Native.Nat.{ℕ, ◌≤◌, ◌<◌}
use native.Mathlib.Omega.{arith}
use lib.ListN.{length, get_or, length-map}
use lib.Seq.{ext_get_or}
use Rattle.graphs.proofs.Lists.{map_row}
use Rattle.graphs.proofs.Turns.{Rowed}

-- row k is the wanted one
abbrev pub Wanted : (ℕ → ℕ) → ℕ → ℕ → Type 0
Wanted wanted k x = x ≡ wanted k

rowed-list : (wanted : ℕ → ℕ) (before : List ℕ) (i : ℕ) (now whole : List ℕ) → Rowed (Wanted wanted) before i now → length before ≤ i
    → length whole ≡ length before → ((k : ℕ) → k < length before → wanted k ≡ get_or whole k 0) → now ≡ whole
rowed-list wanted before i now whole h l e f =
    ext_get_or 0 now whole (h.long ∙ sym e)
    (λ k j. let j' : k < length before = subst (λ n. k < n) h.long j in h.done k (omega arith) ∙ f k j')

-- the same of rows that are changed in place, each by f
pub rowed-map : (f : ℕ → ℕ) → f 0 ≡ 0 → (before : List ℕ) (i : ℕ) (now : List ℕ) → Rowed (Wanted (λ k. f (get_or before k 0))) before i now
    → length before ≤ i → now ≡ map f before
rowed-map f zero-kept before i now h l =
    rowed-list (λ k. f (get_or before k 0)) before i now (map f before) h l (length-map before f) (λ k j. sym (map_row f zero-kept before k))
