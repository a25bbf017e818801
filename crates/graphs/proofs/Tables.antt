-- The refusal table: the first line that is given, of two lists of lines one after the other, and what is left of the checks where a number of rows is
-- right already. Assumes nothing.
use mathlib.Core.Path.{◌≡◌, refl, sym, ap₂, ◌∙◌}
use mathlib.Core.Bool.{Bool, true, false, true≢false}
use mathlib.Core.List.{List, [], ◌∷◌, ◌++◌}
use mathlib.Core.Option.{Option, none, some}
use Prim.Native.Nat.{ℕ, ◌≤◌}
use native.Mathlib.Omega.{arith}
use borrow.Author.Tests.{le-ltb, lt-leb, eq-eqb, ltb-false, leb-false, eqb-true, not-false}
use lib.Dec.{eqb}
use lib.ListN.{length}
use Rattle.masks.specs.Sets.{pick, lowest}
use Rattle.masks.proofs.Lowest.{lowest-none, lowest-under}
use Rattle.graphs.specs.Refusals.{number_of, place_of, Line, first, too_many, unequal, wide, outside, checks}
use Rattle.graphs.specs.declared.refusal.Refusal.{Refusal}
use Rattle.graphs.specs.declared.refusal.Refusal.TheVariants.{TooManyRows, UnequalCosts, RowOutside, RoomTooSmall, Foreign, OtherVersion, OtherLength, OutputTooShort, KeptOutside}
use Rattle.graphs.proofs.Loops.{RowsFit}

-- none of a list is given: its first line is not, and none of the rest is
pub first_off : (l : Line) (ls : List Line) → first (l ∷ ls) ≡ none → l.given ≡ false
first_off l ls e = go l.given refl
  where
    go : (x : Bool) → l.given ≡ x → l.given ≡ false
    go false g = g
    go true g =
        let f : ◌≡◌ {A = Option Refusal} (some l.refusal) none = rw g at e in
        absurd (let z : ◌≡◌ {A = ℕ} 0 1 = cc in omega arith)

pub first_rest : (l : Line) (ls : List Line) → first (l ∷ ls) ≡ none → first ls ≡ none
first_rest l ls e = rw (first_off l ls e) at e

-- so is none of a first part of it
pub first-before : (ls ms : List Line) → first (ls ++ ms) ≡ none → first ls ≡ none
first-before [] ms e = refl
first-before (l ∷ ls) ms e = rw (first_off l (ls ++ ms) e) (first-before ls ms (first_rest l (ls ++ ms) e))

-- none of the first list is given
pub first-none : (ls ms : List Line) → first ls ≡ none → first (ls ++ ms) ≡ first ms
first-none [] ms e = refl
first-none (l ∷ ls) ms e = go l.given refl (first-none ls ms) e
  where
    go : (x : Bool) → l.given ≡ x → (first ls ≡ none → first (ls ++ ms) ≡ first ms) → first (l ∷ ls) ≡ none → first ((l ∷ ls) ++ ms) ≡ first ms
    go true g ih e = absurd (true≢false (sym g ∙ first_off l ls e))
    go false g ih e = rw g (ih (rw g at e))

-- one of the first list is
pub first_some : (ls ms : List Line) (r : Refusal) → first ls ≡ some r → first (ls ++ ms) ≡ some r
first_some [] ms r e = absurd (let z : ◌≡◌ {A = ℕ} 0 1 = cc in omega arith)
first_some (l ∷ ls) ms r e = go l.given refl (first_some ls ms r) e
  where
    go : (x : Bool) → l.given ≡ x → (first ls ≡ some r → first (ls ++ ms) ≡ some r) → first (l ∷ ls) ≡ some r → first ((l ∷ ls) ++ ms) ≡ some r
    go true g ih e = rw g (rw g at e)
    go false g ih e = rw g (ih (rw g at e))

-- two refusals with the same number and place: number and place give it back
abbrev pub refusal_at : ℕ → ℕ → Refusal
refusal_at n p =
    pick (eqb n 1) TooManyRows
    (pick (eqb n 2) UnequalCosts
    (pick (eqb n 3) (RowOutside p)
    (pick (eqb n 4) (RoomTooSmall p)
    (pick (eqb n 5) Foreign (pick (eqb n 6) OtherVersion (pick (eqb n 7) OtherLength (pick (eqb n 8) OutputTooShort KeptOutside)))))))

refusal-back : (r : Refusal) → refusal_at (number_of r) (place_of r) ≡ r
refusal-back TooManyRows = refl
refusal-back UnequalCosts = refl
refusal-back (RowOutside v) = refl
refusal-back (RoomTooSmall v) = refl
refusal-back Foreign = refl
refusal-back OtherVersion = refl
refusal-back OtherLength = refl
refusal-back OutputTooShort = refl
refusal-back KeptOutside = refl

pub refusal-same : (r s : Refusal) → number_of r ≡ number_of s → place_of r ≡ place_of s → r ≡ s
refusal-same r s p q = sym (refusal-back r) ∙ ap₂ refusal_at p q ∙ refusal-back s

-- the table as document 01 writes it, by number and place: its first line that is given is the one above
pub record Written : Type 0 where
  pub given : Bool
  pub number : ℕ
  pub place : ℕ

abbrev pub written : Line → Written
written l = record { given = l.given; number = number_of l.refusal; place = place_of l.refusal }

abbrev pub first_written : List Line → Option (ℕ × ℕ)
first_written [] = none
first_written (l ∷ ls) = let w : Written = written l in pick w.given (some (w.number, w.place)) (first_written ls)

abbrev pub told : Option Refusal → Option (ℕ × ℕ)
told none = none
told (some r) = some (number_of r, place_of r)

pub told-first : (ls : List Line) → told (first ls) ≡ first_written ls
told-first [] = refl
told-first (l ∷ ls) = go l.given (told-first ls)
  where
    go : (x : Bool) → told (first ls) ≡ first_written ls → told (pick x (some l.refusal) (first ls)) ≡ pick x (some (number_of l.refusal, place_of l.refusal)) (first_written ls)
    go true e = refl
    go false e = e

-- n rows, n at most 64: only refusal 3 is left
pub checks-rows : (rows : List ℕ) (n : ℕ) → length rows ≡ n → n ≤ 64 → first (checks rows n) ≡ first (outside rows ∷ [])
checks-rows rows n e h =
    let small : length rows ≤ 64 = omega (arith, e) in
    let same : n ≡ length rows = omega (arith, e) in
    rw (le-ltb _ _ small, eq-eqb n (length rows) same)

-- refusal 3 is not given: the rows fit
pub outside-off : (rows : List ℕ) → (outside rows).given ≡ false → RowsFit rows
outside-off rows g v l =
    let all : length rows ≤ lowest (length rows) (wide rows) = ltb-false _ _ g in
    leb-false _ _ (lowest-under (length rows) (wide rows) v (omega arith))

-- and where they fit it is not given
pub outside-none : (rows : List ℕ) → RowsFit rows → first (outside rows ∷ []) ≡ none
outside-none rows fit =
    let all : lowest (length rows) (wide rows) ≡ length rows = lowest-none (length rows) (wide rows) (λ v l. lt-leb _ _ (fit v l)) in
    rw (le-ltb (lowest (length rows) (wide rows)) (length rows) (omega arith))

-- none of 1, 2 and 3 is given
pub checks-none : (rows : List ℕ) (costs : ℕ) → length rows ≡ costs → costs ≤ 64 → RowsFit rows → first (checks rows costs) ≡ none
checks-none rows costs e h fit = checks-rows rows costs e h ∙ outside-none rows fit

-- what a block that passes the checks has
pub record Checks (rows : List ℕ) (costs : ℕ) : Type 0 where
  pub few : length rows ≤ 64
  pub even : costs ≡ length rows
  pub fit : RowsFit rows

pub checks-passed : (rows : List ℕ) (costs : ℕ) → first (checks rows costs) ≡ none → Checks rows costs
checks-passed rows costs e =
    let e₂ = first_rest (too_many (length rows)) (unequal costs (length rows) ∷ outside rows ∷ []) e in
    let e₃ = first_rest (unequal costs (length rows)) (outside rows ∷ []) e₂ in
    record {
      few = ltb-false _ _ (first_off (too_many (length rows)) (unequal costs (length rows) ∷ outside rows ∷ []) e);
      even = eqb-true _ _ (not-false _ (first_off (unequal costs (length rows)) (outside rows ∷ []) e₂));
      fit = outside-off rows (first_off (outside rows) [] e₃);
    }
