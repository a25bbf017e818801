-- The reduction is sound: the forced set joined with the lightest set of what is left is the lightest set of the block as lent. It holds at the start,
-- and each step keeps it, by the law of the rule that was used. Assumes nothing.
use mathlib.Core.Path.{◌≡◌, refl, sym, ◌∙◌, subst}
use mathlib.Core.Logic.{◌↔◌}
use mathlib.Core.Bool.{Bool, ◌||◌, or-true}
use mathlib.Core.List.{List}
use mathlib.Core.Option.{some}
use Prim.Native.Nat.{ℕ, ◌-◌, ◌≤◌, ◌<◌, ◌^◌}
use native.Mathlib.Decide.{ℕ_discrete}
use lib.Bits.{bit_or, or_lt, or_zero_l}
use lib.Dec.{T}
use lib.ListN.{length, get_or}
use Rattle.masks.specs.Sets.{bit, put, cut}
use Rattle.masks.proofs.Bits.{bit-ext, bit-or, full-bit, bit-lt}
use Rattle.masks.proofs.PutCut.{put_same, put_other, put-lt, cut_keeps, cut-from}
use Rattle.graphs.specs.Graph.{edge}
use Rattle.graphs.specs.Light.{Lightest}
use Rattle.graphs.proofs.Loops.{RowsFit, edge-plain}
use Rattle.graphs.proofs.Lightest.{Least, least_iff, least-of, swap}
use Rattle.graphs.proofs.Walks.{flip}
use Rattle.reduction.specs.Rules.{State, Move, start, force, run, next}
use Rattle.masks.proofs.Tests.{T_false, false-T}
use Rattle.graphs.proofs.Parts.{Within}
use Rattle.reduction.proofs.Removal.{without, Without, Rest, same-least, rule1, rule2-in, rule2-out}
use Rattle.reduction.proofs.Folding.{fold, Cheaper, Better, rule3, rule4}
use Rattle.reduction.proofs.States.{arcs, Sane, start-sane, live-lt, remove-arcs, force-arcs, fold_in-arcs, fold_out-arcs}
use Rattle.reduction.proofs.Runs.{run-keeps, start-run-sane, run_ends}
use Rattle.reduction.proofs.Next.{Used, Settled, by1, by2-in, by2-out, by3, by4, next-used, next-settled, next_sane, settled-edge}

-- ---- sets of live flip-flops

within-cut : (L v S : ℕ) → Without v (Within L) S ↔ Within (cut L v) S
within-cut L v S = (
  (λ w x t. cut_keeps L v x (λ e. false-T (bit S v) w.1 (subst (λ z. T (bit S z)) e t)) (w.0 x t)),
  λ h. ((λ x t. (cut-from L v x (h x t)).1), T_false (bit S v) (λ t. (cut-from L v v (h v t)).0 refl)),
)

keep-cut : (L v S : ℕ) → Within L S → Within L (cut S v)
keep-cut L v S h x t = h x (cut-from S v x t).1

keep-put : (L v S : ℕ) → T (bit L v) → Within L S → Within L (put S v)
keep-put L v S l h x t = go (ℕ_discrete x v)
  where
    go : Dec (x ≡ v) → T (bit L x)
    go (yes e) = rw e l
    go (no k) = h x (subst T (put_other S v x k) t)

keep-swap : (L u v S : ℕ) → T (bit L u) → Within L S → Within L (swap u v S)
unfolding swap
keep-swap L u v S l h = keep-put L u (cut S v) l (keep-cut L v S h)

-- v and a set of the others
within-rest : (L v S : ℕ) → T (bit L v) → Rest v (Within L) S ↔ Within (cut L v) S
within-rest L v S l =
    ((λ r. (within-cut L v S).0 ((λ x t. back r x t (ℕ_discrete x v)), r.1)), λ h. let w = (within-cut L v S).1 h in (keep-put L v S l w.0, w.1))
  where
    back : Rest v (Within L) S → (x : ℕ) → T (bit S x) → Dec (x ≡ v) → T (bit L x)
    back r x t (yes e) = rw e l
    back r x t (no k) = r.0 x (subst T (sym (put_other S v x k)) t)

put-or : (n F S v : ℕ) → F < 2 ^ n → S < 2 ^ n → v < n → bit_or (put F v) S ≡ bit_or F (put S v)
put-or n F S v lf ls lv =
    bit-ext n (bit_or (put F v) S) (bit_or F (put S v)) (or_lt n (put F v) S (put-lt n F v lf lv) ls) (or_lt n F (put S v) lf (put-lt n S v ls lv))
    (λ x l. bit-or (put F v) S x ∙ go x (ℕ_discrete x v) ∙ sym (bit-or F (put S v) x))
  where
    go : (x : ℕ) → Dec (x ≡ v) → (bit (put F v) x || bit S x) ≡ (bit F x || bit (put S v) x)
    go x (yes e) = rw (e, put_same F v, put_same S v) (sym (or-true (bit F v)))
    go x (no k) = rw (put_other F v x k, put_other S v x k)

-- ---- a step: the lightest set of what is left, with v where v is forced, is the lightest set of what was there

module _ (c : ℕ → ℕ) (n : ℕ) (s : State) (h : Sane n s) where
  abbrev Lights : State → ℕ → Type 0
  Lights t S = Least c n (Within t.live) (arcs t) S

  record Before (t : State) (S : ℕ) : Type 0 where
    was : ℕ
    lights : Lights s was
    whole : bit_or t.forced S ≡ bit_or s.forced was

  abbrev Back : State → Type 0
  Back t = (S : ℕ) → Lights t S → Before t S

  below : (v : ℕ) → T (bit s.live v) → v < n
  below v l = live-lt n s h v l

  -- v is forced
  with-v : (v : ℕ) → T (bit s.live v) → T (arcs s v v) → Back (force v s)
  with-v v lv t S l =
      record {
        was = put S v;
        lights = rule1 c n (Within L) (arcs s) v (below v lv) t S
            ((least-of c n (Rest v (Within L)) (Within (cut L v)) (without (arcs s) v) (λ R k. within-rest L v R lv) S).1
            (same-least c n (Within (cut L v)) (arcs (force v s)) (without (arcs s) v) (force-arcs v s) S l));
        whole = put-or n s.forced S v h.forced-fits l.fits (below v lv);
      }
    where
      L : ℕ
      L = s.live

  -- v is left out, by a law of rule 2, 3 or 4 that leaves the graph E
  without-v : (v : ℕ) (rows : List ℕ) (E : ℕ → ℕ → Bool) → ((a b : ℕ) → bit (get_or rows a 0) b ≡ E a b)
      → ((S : ℕ) → Least c n (Without v (Within s.live)) E S → Lights s S)
      → Back (record { live = cut s.live v; forced = s.forced; rows = rows })
  without-v v rows E e law S l =
      record {
        was = S;
        lights = law S
            ((least-of c n (Without v (Within L)) (Within (cut L v)) E (λ R k. within-cut L v R) S).1
            (same-least c n (Within (cut L v)) (λ a b. bit (get_or rows a 0) b) E e S l));
        whole = refl;
      }
    where
      L : ℕ
      L = s.live

  -- a live u may take the place of a live v
  better : (u v : ℕ) → T (bit s.live u) → T (bit s.live v) → Cheaper c u v → Better c n (Within s.live) u v
  better u v lu lv d = record { u-lt = below u lu; v-lt = below v lv; allowed = λ S. keep-swap s.live u v S lu; cheaper = d }

  step_back : (m : Move) → Used c s m → Back m.after
  step_back m (by1 v lv t e) = subst (λ x. Back x.after) (sym e) (with-v v lv t)
  step_back m (by2-in v lv t e) =
      subst (λ x. Back x.after) (sym e)
      (without-v v _ (without (arcs s) v) (remove-arcs v s) (rule2-in c n (Within s.live) (arcs s) v (below v lv) (keep-cut s.live v) t))
  step_back m (by2-out v lv t e) =
      subst (λ x. Back x.after) (sym e)
      (without-v v _ (without (arcs s) v) (remove-arcs v s) (rule2-out c n (Within s.live) (arcs s) v (below v lv) (keep-cut s.live v) t))
  step_back m (by3 u v lu lv t d e) =
      subst (λ x. Back x.after) (sym e)
      (without-v v _ (fold (arcs s) u v) (fold_in-arcs u v s (rw h.many (below u lu))) (rule3 c n (Within s.live) (arcs s) u v (better u v lu lv d) t))
  step_back m (by4 u v lu lv t d e) =
      subst (λ x. Back x.after) (sym e)
      (without-v v _ (flip (fold (flip (arcs s)) u v)) (fold_out-arcs u v s) (rule4 c n (Within s.live) (arcs s) u v (better u v lu lv d) t))

-- ---- the invariant

-- "The pick is the forced set joined with the lightest sets" of what is left
abbrev pub Sound : (ℕ → ℕ) → List ℕ → State → Type 0
Sound c rows s = (S : ℕ) → Lightest c (length rows) (Within s.live) (arcs s) S → Lightest c (length rows) (λ R. Unit {0}) (edge rows) (bit_or s.forced S)

pub sound-start : (c : ℕ → ℕ) (rows : List ℕ) → Sound c rows (start rows)
sound-start c rows S l =
    subst (λ z. Lightest c n (λ R. Unit {0}) (edge rows) z) (sym (or_zero_l S))
    ((least_iff c n (λ R. Unit {0}) (edge rows) S).1
    ((least-of c n (λ R. Unit {0}) (Within (2 ^ n - 1)) (edge rows) (λ R k. ((λ u x t. subst T (sym (full-bit n x (bit-lt n R x k t))) tt), λ w. tt)) S).1
    (same-least c n (Within (2 ^ n - 1)) (arcs (start rows)) (edge rows) (λ a b. sym (edge-plain rows a b)) S
    ((least_iff c n (Within (2 ^ n - 1)) (arcs (start rows)) S).0 l))))
  where
    n : ℕ
    n = length rows

pub sound-step : (c : ℕ → ℕ) (rows : List ℕ) (s : State) (m : Move) → Sane (length rows) s → next c s ≡ some m → Sound c rows s → Sound c rows m.after
sound-step c rows s m h e k S l =
    let n = length rows in
    let b = step_back c n s h m (next-used c n s h m e) S ((least_iff c n (Within m.after.live) (arcs m.after) S).0 l) in
    subst (λ z. Lightest c n (λ R. Unit {0}) (edge rows) z) (sym b.whole) (k b.was ((least_iff c n (Within s.live) (arcs s) b.was).1 b.lights))

-- ---- a run

pub run-lightest : (c : ℕ → ℕ) (rows : List ℕ) → RowsFit rows → (k S : ℕ) → let r = (run c k (start rows)).left in
    Lightest c (length rows) (Within r.live) (arcs r) S → Lightest c (length rows) (λ R. Unit {0}) (edge rows) (bit_or r.forced S)
run-lightest c rows fit k =
    (run-keeps c (λ s. Sane (length rows) s × Sound c rows s)
    (λ s m e h. (next_sane c (length rows) s h.0 m e, sound-step c rows s m h.0 e h.1))
    k (start rows) (start-sane rows fit, sound-start c rows)).1

-- where no rule applies any more, the edges that are left are those of the rows as a block of its own
pub full-lightest : (c : ℕ → ℕ) (rows : List ℕ) → RowsFit rows → (k S : ℕ) → length rows ≤ k → let r = (run c k (start rows)).left in
    Lightest c (length rows) (Within r.live) (edge r.rows) S → Lightest c (length rows) (λ R. Unit {0}) (edge rows) (bit_or r.forced S)
full-lightest c rows fit k S h l =
    let n = length rows in
    let r = (run c k (start rows)).left in
    let sane : Sane n r = start-run-sane c rows fit k in
    let settled : Settled c r = next-settled c n r sane (run_ends c rows fit k h) in
    run-lightest c rows fit k S
    ((least_iff c n (Within r.live) (arcs r) S).1
    (same-least c n (Within r.live) (edge r.rows) (arcs r) (λ a b. sym (settled-edge c n r sane settled a b)) S
    ((least_iff c n (Within r.live) (edge r.rows) S).0 l)))
