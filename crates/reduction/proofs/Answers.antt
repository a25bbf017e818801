-- The whole answer: rows in the first part of 64, a limit that is above their number, and the run that is told. Assumes nothing.
use mathlib.Core.Path.{◌≡◌, sym, ap, ◌∙◌, subst}
use mathlib.Core.List.{List, ◌++◌}
use Prim.Native.Nat.{ℕ, ◌+◌, ◌-◌, ◌≤◌, ◌<◌, ◌^◌, min}
use native.Mathlib.Decide.{dec_lt}
use native.Mathlib.Omega.{arith}
use lib.ListN.{length, get_or, take, drop, replicate, length-append, length-replicate, replicate-append-replicate}
use lib.Seq.{length-take-le, take_at, drop_at}
use Rattle.graphs.specs.Graph.{plain}
use Rattle.graphs.proofs.Loops.{RowsFit, rows-lt, plain-length, plain_fits}
use Rattle.reduction.specs.declared.Log.{Log}
use Rattle.reduction.specs.Rules.{start, run}
use Rattle.reduction.specs.Promise.{filled, Returned}
use Rattle.reduction.specs.Work.{block, Logged}
use Rattle.reduction.proofs.Runs.{run_more}

-- ---- the first part of 64 rows

abbrev pub zeros : List ℕ
zeros = replicate 64 0

module _ (n : ℕ) (few : n ≤ 64) where
  pub zeros-part : n ≡ length (take n zeros)
  zeros-part = sym (length-take-le n zeros few)

  zeros-rest : drop n zeros ≡ replicate (64 - n) 0
  zeros-rest =
      let e : 64 ≡ n + (64 - n) = omega arith in
      ap (λ k. drop n (replicate k 0)) e ∙ ap (drop n) (sym (replicate-append-replicate n (64 - n) 0))
      ∙ drop_at (replicate n 0) (replicate (64 - n) 0) n (length-replicate n 0)

  module _ (part : List ℕ) (e : length part ≡ n) where
    pub part-is : take n (part ++ drop n zeros) ≡ part
    part-is = take_at part (drop n zeros) n e

    pub part-long : n ≡ length (take n (part ++ drop n zeros))
    part-long = sym (ap length part-is ∙ e)

    pub whole_long : n ≤ length (part ++ drop n zeros)
    whole_long = rw length-append (omega arith)

    pub rest-is : drop n (part ++ drop n zeros) ≡ replicate (64 - n) 0
    rest-is = drop_at part (drop n zeros) n e ∙ zeros-rest

    -- the in-rows are made from rows that fit
    pub part-fit : ((v : ℕ) → get_or part v 0 < 2 ^ n)
        → (v : ℕ) → get_or (take n (part ++ drop n zeros)) v 0 < 2 ^ length (take n (part ++ drop n zeros))
    part-fit fit v = rw (part-is, e) (fit v)

-- rows without their self edges fit
pub plain-fit : (rows : List ℕ) → RowsFit rows → (outs : List ℕ) → outs ≡ plain rows → (v : ℕ) → get_or outs v 0 < 2 ^ length rows
plain-fit rows fit outs e v =
    rw e (subst (λ n. get_or (plain rows) v 0 < 2 ^ n) (plain-length 0 rows) (rows-lt (plain rows) (plain_fits rows fit) v))

-- ---- what is answered

-- "a limit of n or more is full reduction"
limited : (c : ℕ → ℕ) (rows : List ℕ) → RowsFit rows → (limit : ℕ) → run c (min limit (length rows)) (start rows) ≡ run c limit (start rows)
limited c rows fit limit = go (dec_lt limit (length rows))
  where
    go : Dec (limit < length rows) → run c (min limit (length rows)) (start rows) ≡ run c limit (start rows)
    go (yes l) = ap (λ k. run c k (start rows)) (omega arith)
    go (no l) =
        let l' : ¬ (limit < length rows) = l in
        ap (λ k. run c k (start rows)) (omega arith) ∙ sym (run_more c rows fit limit (omega arith))

-- the block as the code starts with it
started : (rows outs : List ℕ) → outs ≡ plain rows → block (2 ^ length outs - 1) 0 outs ≡ start rows
started rows outs e = rw e (ap (λ k. block (2 ^ k - 1) 0 (plain rows)) (plain-length 0 rows))

pub answered : (c : ℕ → ℕ) (rows : List ℕ) (limit most : ℕ) (outs left rest : List ℕ) (log : Log) → RowsFit rows → outs ≡ plain rows
    → most ≡ min limit (length rows) → length left ≡ length rows → rest ≡ replicate (64 - length rows) 0
    → Logged (run c most (block (2 ^ length outs - 1) 0 outs)) log left
    → Returned (run c limit (start rows))
    (record { count = log.count; steps = log.steps; forced = log.forced; live = log.live; rows = left ++ rest })
answered c rows limit most outs left rest log fit e f g z l =
    record {
      count = l'.count;
      steps = l'.steps;
      forced = l'.forced;
      live = l'.live;
      rows = rw z (ap (λ k. left ++ replicate (64 - k) 0) (sym g) ∙ ap (filled 0) l'.rows);
    }
  where
    l' : Logged (run c limit (start rows)) log left
    l' =
        subst (λ r. Logged r log left)
        (ap (λ s. run c most s) (started rows outs e) ∙ ap (λ k. run c k (start rows)) f ∙ limited c rows fit limit) l
