-- The promises shut out useless versions: one that always refuses, one whose answers are one constant (also if it refuses where it likes), and one that
-- claims an answer and leaves a lent buffer as it was. Shown at block A and at the block of no flip-flops, which the promises answer. Assumes nothing.
use Rattle.std.specs.Prelude.{Ok, Err}
use Rattle.blockfile.specs.Promise.{Answer}
use mathlib.Core.Path.{◌≡◌, sym, ◌∙◌}
use mathlib.Core.Logic.{◌⊎◌, inl, inr}
use mathlib.Core.List.{List, [], ◌∷◌, ◌++◌}
use Prim.Native.Nat.{ℕ}
use native.Mathlib.Omega.{arith}
use lib.ListN.{replicate}
use Rattle.graphs.specs.declared.refusal.Refusal.{Refusal}
use Rattle.blockfile.specs.Promise.{HeaderPromise, ReadPromise, WritePromise}
use Rattle.blockfile.proofs.Unique.{header-unique, read-unique, write-unique}
use Rattle.blockfile.proofs.Worked.{file_a, rows_a, costs_a, header-of-A, reading-of-A, writing-of-A}
use Rattle.blockfile.proofs.Worked.{header-of-none, reading-of-none, writing-of-none, file_none}

-- ---- a header

abbrev pub KeepsHeader : (List ℕ → Answer) → Type 0
KeepsHeader f = (file : List ℕ) → HeaderPromise file (f file)

-- an answer that is no refusal is n
abbrev pub CountOr : ℕ → Answer → Type 0
CountOr n a = (a ≡ Ok n) ⊎ ((r : Refusal) × (a ≡ Err r))

count-answered : (n m : ℕ) (a : Answer) → a ≡ Ok m → CountOr n a → n ≡ m
count-answered n m a e (inl g) = cc
count-answered n m a e (inr g) = absurd (let g = g.1 in let z : ◌≡◌ {A = ℕ} 0 1 = cc in omega arith)

module _ (f : List ℕ → Answer) (keeps : KeepsHeader f) where
  header-A : f file_a ≡ Ok 4
  header-A = header-unique file_a _ _ (keeps file_a) header-of-A

  header-none : f file_none ≡ Ok 0
  header-none = header-unique file_none _ _ (keeps file_none) header-of-none

  pub header-refuses : ((file : List ℕ) → (r : Refusal) × (f file ≡ Err r)) → ⊥
  header-refuses h = let z = count-answered 0 4 (f file_a) header-A (inr (h file_a)) in omega arith

  pub header-constant : (n : ℕ) → ((file : List ℕ) → CountOr n (f file)) → ⊥
  header-constant n h =
      let a = count-answered n 4 (f file_a) header-A (h file_a) in
      let b = count-answered n 0 (f file_none) header-none (h file_none) in
      omega arith

-- ---- the reader

-- of a file, costs and rows: an answer, costs and rows
abbrev pub Reader : Type 0
Reader = List ℕ → List ℕ → List ℕ → Answer × List ℕ × List ℕ

abbrev pub KeepsRead : Reader → Type 0
KeepsRead f = (file costs rows : List ℕ) → ReadPromise file costs rows (f file costs rows).0 (f file costs rows).1 (f file costs rows).2

-- an answer that is no refusal is a block of n
abbrev pub BlockOr : ℕ → Answer → Type 0
BlockOr n a = (a ≡ Ok n) ⊎ ((r : Refusal) × (a ≡ Err r))

block-answered : (n m : ℕ) (a : Answer) → a ≡ Ok m → BlockOr n a → n ≡ m
block-answered n m a e (inl g) = cc
block-answered n m a e (inr g) = absurd (let g = g.1 in let z : ◌≡◌ {A = ℕ} 0 1 = cc in omega arith)

-- costs and rows as lent
abbrev lent_costs : List ℕ
lent_costs = 0 ∷ 0 ∷ 0 ∷ 0 ∷ 7 ∷ []

abbrev lent_rows : List ℕ
lent_rows = 0 ∷ 0 ∷ 0 ∷ 0 ∷ 8 ∷ []

module _ (f : Reader) (keeps : KeepsRead f) where
  reader-A : let g = f file_a lent_costs lent_rows in (g.0 ≡ Ok 4) × (g.1 ≡ costs_a ++ 7 ∷ []) × (g.2 ≡ rows_a ++ 8 ∷ [])
  reader-A = read-unique file_a lent_costs lent_rows _ _ _ _ _ _ (keeps file_a lent_costs lent_rows) reading-of-A

  reader-none : (f file_none [] []).0 ≡ Ok 0
  reader-none = (read-unique file_none [] [] _ _ _ _ _ _ (keeps file_none [] []) reading-of-none).0

  pub reader-refuses : ((file costs rows : List ℕ) → (r : Refusal) × ((f file costs rows).0 ≡ Err r)) → ⊥
  reader-refuses h = let z = block-answered 0 4 _ reader-A.0 (inr (h file_a lent_costs lent_rows)) in omega arith

  pub reader-constant : (n : ℕ) → ((file costs rows : List ℕ) → BlockOr n (f file costs rows).0) → ⊥
  reader-constant n h =
      let a = block-answered n 4 _ reader-A.0 (h file_a lent_costs lent_rows) in
      let b = block-answered n 0 _ reader-none (h file_none [] []) in
      omega arith

  pub reader-leaves-costs : ((file costs rows : List ℕ) → (f file costs rows).1 ≡ costs) → ⊥
  reader-leaves-costs h = let e : costs_a ++ 7 ∷ [] ≡ lent_costs = sym reader-A.1 ∙ h file_a lent_costs lent_rows in let z : ◌≡◌ {A = ℕ} 1 0 = cc in omega arith

  pub reader-leaves-rows : ((file costs rows : List ℕ) → (f file costs rows).2 ≡ rows) → ⊥
  reader-leaves-rows h = let e : rows_a ++ 8 ∷ [] ≡ lent_rows = sym reader-A.2 ∙ h file_a lent_costs lent_rows in let z : ◌≡◌ {A = ℕ} 2 0 = cc in omega arith

-- ---- the writer

-- of rows, costs and an output: an answer and the output
abbrev pub Writer : Type 0
Writer = List ℕ → List ℕ → List ℕ → Answer × List ℕ

abbrev pub KeepsWrite : Writer → Type 0
KeepsWrite f = (rows costs out : List ℕ) → WritePromise rows costs out (f rows costs out).0 (f rows costs out).1

-- an answer that is no refusal is the length n
abbrev pub LengthOr : ℕ → Answer → Type 0
LengthOr n a = (a ≡ Ok n) ⊎ ((r : Refusal) × (a ≡ Err r))

length-answered : (n m : ℕ) (a : Answer) → a ≡ Ok m → LengthOr n a → n ≡ m
length-answered n m a e (inl g) = cc
length-answered n m a e (inr g) = absurd (let g = g.1 in let z : ◌≡◌ {A = ℕ} 0 1 = cc in omega arith)

abbrev lent_out : List ℕ
lent_out = replicate 54 0 ++ 9 ∷ []

module _ (f : Writer) (keeps : KeepsWrite f) where
  writer-A : ((f rows_a costs_a lent_out).0 ≡ Ok 54) × ((f rows_a costs_a lent_out).1 ≡ file_a ++ 9 ∷ [])
  writer-A = write-unique rows_a costs_a lent_out _ _ _ _ (keeps rows_a costs_a lent_out) writing-of-A

  writer-none : (f [] [] (replicate 6 0)).0 ≡ Ok 6
  writer-none = (write-unique [] [] (replicate 6 0) _ _ _ _ (keeps [] [] (replicate 6 0)) writing-of-none).0

  pub writer-refuses : ((rows costs out : List ℕ) → (r : Refusal) × ((f rows costs out).0 ≡ Err r)) → ⊥
  writer-refuses h = let z = length-answered 0 54 _ writer-A.0 (inr (h rows_a costs_a lent_out)) in omega arith

  pub writer-constant : (n : ℕ) → ((rows costs out : List ℕ) → LengthOr n (f rows costs out).0) → ⊥
  writer-constant n h =
      let a = length-answered n 54 _ writer-A.0 (h rows_a costs_a lent_out) in
      let b = length-answered n 6 _ writer-none (h [] [] (replicate 6 0)) in
      omega arith

  pub writer-leaves-out : ((rows costs out : List ℕ) → (f rows costs out).1 ≡ out) → ⊥
  writer-leaves-out h = let e : file_a ++ 9 ∷ [] ≡ lent_out = sym writer-A.1 ∙ h rows_a costs_a lent_out in let z : ◌≡◌ {A = ℕ} 70 0 = cc in omega arith
