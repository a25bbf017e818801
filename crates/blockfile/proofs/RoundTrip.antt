-- Answer what was written gives the block back, and writing what was read gives the file back byte for byte. Over the promises alone, so of any reader
-- and writer that keep them: the answer that the layout's laws allow is shown, and it is the only one. Assumes nothing.
use Rattle.std.specs.Prelude.{Ok}
use Rattle.blockfile.specs.Promise.{Answer}
use mathlib.Core.Path.{◌≡◌, refl, sym, ap, ap₂, ◌∙◌, subst, subst₂}
use mathlib.Core.List.{List, ◌++◌}
use mathlib.Core.Option.{none}
use Prim.Native.Nat.{ℕ, ◌+◌, ◌*◌, ◌≤◌}
use native.Mathlib.Omega.{arith}
use lib.ListN.{length, take, drop}
use lib.Seq.{take_at}
use Rattle.graphs.specs.Refusals.{first, checks}
use Rattle.graphs.proofs.Tables.{checks-none}
use Rattle.blockfile.specs.Layout.{layout, count, file_costs, file_rows}
use Rattle.blockfile.specs.Promise.{read_lines, ReadPromise, WritePromise}
use Rattle.blockfile.proofs.Numbers.{Octets, numbers-length}
use Rattle.blockfile.proofs.Tables.{write-none}
use Rattle.blockfile.proofs.Layouts.{Valid, accepted-valid, accepted-layout}
use Rattle.blockfile.proofs.Layouts.{layout-length, layout-count, layout-costs, layout-rows, layout-accepted}
use Rattle.blockfile.proofs.Unique.{read-unique, write-unique}

-- ---- a block that fits: what the writer writes, and what the reader finds there

module _ (rows costs : List ℕ) (b : Valid rows costs) where
  -- where there is room the writer gives the layout
  pub write-valid : (out : List ℕ) → 6 + 12 * length rows ≤ length out
      → WritePromise rows costs out (Ok (6 + 12 * length rows)) (layout costs rows ++ drop (6 + 12 * length rows) out)
  write-valid out h =
      let passed : first (checks rows (length costs)) ≡ none = checks-none rows (length costs) (sym b.even) (omega (arith, b.few, b.even)) b.fit in
      record { refusal = sym (write-none rows (length costs) (length out) passed h); effect = (refl, refl) }

  pub write-answers : (out : List ℕ) (answer : Answer) (out' : List ℕ) → 6 + 12 * length rows ≤ length out → WritePromise rows costs out answer out'
      → (answer ≡ Ok (6 + 12 * length rows)) × (out' ≡ layout costs rows ++ drop (6 + 12 * length rows) out)
  write-answers out answer out' h p = write-unique rows costs out _ _ _ _ p (write-valid out h)

  -- where there is room the reader gives the block of its layout
  pub read-valid : (costs₀ rows₀ : List ℕ) → length rows ≤ length costs₀ → length rows ≤ length rows₀
      → ReadPromise (layout costs rows) costs₀ rows₀ (Ok (length rows)) (costs ++ drop (length rows) costs₀) (rows ++ drop (length rows) rows₀)
  read-valid costs₀ rows₀ hc hr =
      record {
        refusal = sym (layout-accepted rows costs b (length costs₀) (length rows₀) hc hr);
        effect = (
          sym (layout-count rows costs b),
          ap (λ (l : List ℕ). l ++ drop (length rows) costs₀) (sym (layout-costs rows costs b)),
          ap (λ (l : List ℕ). l ++ drop (length rows) rows₀) (sym (layout-rows rows costs b)),
        );
      }

  -- what was written
  pub written : (out : List ℕ) (m : ℕ) (out' : List ℕ) → WritePromise rows costs out (Ok m) out' → take m out' ≡ layout costs rows
  written out m out' w =
      ap (take m) w.effect.1 ∙ take_at (layout costs rows) (drop m out) m (layout-length rows costs b ∙ sym w.effect.0)

  -- reading what was written gives the block back
  pub write_read : (out : List ℕ) (m : ℕ) (out' costs₀ rows₀ : List ℕ) (answer : Answer) (costs' rows' : List ℕ)
      → length rows ≤ length costs₀ → length rows ≤ length rows₀
      → WritePromise rows costs out (Ok m) out' → ReadPromise (take m out') costs₀ rows₀ answer costs' rows'
      → (answer ≡ Ok (length rows)) × (costs' ≡ costs ++ drop (length rows) costs₀) × (rows' ≡ rows ++ drop (length rows) rows₀)
  write_read out m out' costs₀ rows₀ answer costs' rows' hc hr w r =
      let p : ReadPromise (layout costs rows) costs₀ rows₀ answer costs' rows' =
      subst (λ (file : List ℕ). ReadPromise file costs₀ rows₀ answer costs' rows') (written out m out' w) r in
      read-unique (layout costs rows) costs₀ rows₀ _ _ _ _ _ _ p (read-valid costs₀ rows₀ hc hr)

-- ---- a file that was read

module _ (file costs₀ rows₀ : List ℕ) (n : ℕ) (costs' rows' : List ℕ) (p : ReadPromise file costs₀ rows₀ (Ok n) costs' rows') where
  -- the first n costs and rows are the file's
  pub read-costs : take n costs' ≡ file_costs file
  read-costs = ap (take n) p.effect.1 ∙ take_at (file_costs file) (drop n costs₀) n (numbers-length 4 (count file) (drop 6 file) ∙ sym p.effect.0)

  pub read-rows : take n rows' ≡ file_rows file
  read-rows =
      ap (take n) p.effect.2
      ∙ take_at (file_rows file) (drop n rows₀) n (numbers-length 8 (count file) (drop (6 + 4 * count file) file) ∙ sym p.effect.0)

  -- writing what was read gives the file back
  pub read-write : (out : List ℕ) (answer : Answer) (out' : List ℕ) → Octets file → length file ≤ length out
      → WritePromise (take n rows') (take n costs') out answer out' → (answer ≡ Ok (length file)) × (out' ≡ file ++ drop (length file) out)
  read-write out answer out' o h w =
      let e : first (read_lines file (length costs₀) (length rows₀)) ≡ none = sym p.refusal in
      let b : Valid (file_rows file) (file_costs file) = accepted-valid file _ _ o e in
      let same : layout (file_costs file) (file_rows file) ≡ file = accepted-layout file _ _ o e in
      let long : 6 + 12 * length (file_rows file) ≡ length file = sym (layout-length (file_rows file) (file_costs file) b) ∙ ap length same in
      let q : WritePromise (file_rows file) (file_costs file) out answer out' =
      subst₂ (λ (rs cs : List ℕ). WritePromise rs cs out answer out') read-rows read-costs w in
      let got = write-answers (file_rows file) (file_costs file) b out answer out' (omega arith) q in
      (got.0 ∙ ap Ok long, got.1 ∙ ap₂ (λ (l : List ℕ) (i : ℕ). l ++ drop i out) same long)
