-- The set that `best` finds is the lightest of those that take the tree to 0, and it finds none exactly where the tree is 1 everywhere: a set that takes
-- a branch to 0 holds its variable and does so to the low side, or lacks it and does so to the high side. Shown by induction on the tree. Assumes nothing.
use mathlib.Core.Path.{◌≡◌, refl, sym, ap, ◌∙◌, subst}
use mathlib.Core.Logic.{◌≢◌, ◌⊎◌, inl, inr, ⊎_elim, ◌↔◌}
use mathlib.Core.Bool.{Bool, true, false, not, ◌&&◌, ◌||◌, true≢false, false≢true, not-not}
use mathlib.Core.Option.{Option, none, some}
use Prim.Native.Nat.{ℕ, suc, ◌≤◌, ◌<◌, ◌^◌}
use native.Mathlib.Omega.{arith}
use native.Mathlib.Decide.{ℕ_discrete}
use lib.Dec.{ltb, leb, eqb}
use lib.Pow.{pow_pos}
use borrow.Author.Tests.{ltb-true, ltb-false, leb-true, leb-false, eqb-true, eqb-false}
use Rattle.masks.specs.Sets.{bit, pick, put, cut, those, weight}
use Rattle.masks.proofs.Bits.{bit-zero}
use Rattle.masks.proofs.PutCut.{put_same, put_other, put-lt, cut-same, cut-other, cut-lt, put-cut}
use Rattle.masks.proofs.Weights.{weight-none}
use Rattle.masks.proofs.Those.{those-lt, those-in}
use Rattle.graphs.specs.Light.{left, Lighter}
use Rattle.graphs.proofs.Lightest.{AsLight, as-light-trans, as-light-both, not-lighter, put_order}
use Rattle.trees.specs.Tree.{Tree, off, on, br, at, Ordered}
use Rattle.trees.specs.Best.{Frees, Under, held, as_light, lighter, best}
use Rattle.trees.proofs.Canonical.{at-cong}

-- ---- what a set leaves, one member more or less

left-put : (S v w : ℕ) → suc v ≤ w → left (put S v) w ≡ left S w
left-put S v w l = ap not (put_other S v w (omega arith))

left_cut : (S v w : ℕ) → suc v ≤ w → left (cut S v) w ≡ left S w
left_cut S v w l = ap not (cut-other S v w (omega arith))

-- a set that holds v and takes the low side to 0, and one that lacks v and takes the high side to 0
abbrev With : ℕ → Tree → ℕ → Type 0
With v l S = (bit S v ≡ true) × Frees l S

abbrev Lacks : ℕ → Tree → ℕ → Type 0
Lacks v h S = (bit S v ≡ false) × Frees h S

-- those are the sets that take a branch to 0
frees-br : (v : ℕ) (l h : Tree) (S : ℕ) → Frees (br v l h) S → With v l S ⊎ Lacks v h S
frees-br v l h S f = go (bit S v) refl f
  where
    go : (x : Bool) → bit S v ≡ x → pick (not x) (at h (left S)) (at l (left S)) ≡ false → With v l S ⊎ Lacks v h S
    go true e f = inl (e, f)
    go false e f = inr (e, f)

module _ (c : ℕ → ℕ) (n : ℕ) where
  -- ---- the test for as light

  light-true : (S R : ℕ) → as_light c n S R ≡ true → AsLight c n S R
  unfolding as_light
  light-true S R e = go (ltb (weight c n S) (weight c n R)) refl (eqb (weight c n S) (weight c n R)) refl (leb S R) refl e
    where
      go : (x : Bool) → ltb (weight c n S) (weight c n R) ≡ x → (y : Bool) → eqb (weight c n S) (weight c n R) ≡ y → (z : Bool) → leb S R ≡ z
          → (x || (y && z)) ≡ true → AsLight c n S R
      go true p y q z r e = inl (ltb-true _ _ p)
      go false p true q true r e = inr (eqb-true _ _ q, leb-true _ _ r)
      go false p true q false r e = absurd (false≢true e)
      go false p false q z r e = absurd (false≢true e)

  light-false : (S R : ℕ) → as_light c n S R ≡ false → AsLight c n R S
  unfolding as_light
  light-false S R e = go (ltb (weight c n S) (weight c n R)) refl (eqb (weight c n S) (weight c n R)) refl (leb S R) refl e
    where
      go : (x : Bool) → ltb (weight c n S) (weight c n R) ≡ x → (y : Bool) → eqb (weight c n S) (weight c n R) ≡ y → (z : Bool) → leb S R ≡ z
          → (x || (y && z)) ≡ false → AsLight c n R S
      go true p y q z r e = absurd (true≢false e)
      go false p true q true r e = absurd (true≢false e)
      go false p true q false r e =
          let k : R < S = leb-false _ _ r in
          inr (sym (eqb-true _ _ q), omega arith)
      go false p false q z r e =
          let k : weight c n R ≤ weight c n S = ltb-false _ _ p in
          let j : weight c n S ≢ weight c n R = eqb-false _ _ q in
          inl (omega arith)

  -- no set is lighter than the empty one
  empty-least : (R : ℕ) → AsLight c n 0 R
  empty-least R = go (ℕ_discrete (weight c n R) 0)
    where
      go : Dec (weight c n R ≡ 0) → AsLight c n 0 R
      go (yes e) = inr (weight-none c n ∙ sym e, omega arith)
      go (no k) =
          let k' : weight c n R ≢ 0 = k in
          inl (omega (arith, weight-none c n))

  -- ---- answers

  -- S is the lightest set of those in F, and holds no flip-flop below b
  pub record Found (b : ℕ) (F : ℕ → Type 0) (S : ℕ) : Type 0 where
    pub fits : S < 2 ^ n
    pub clear : (v : ℕ) → v < b → bit S v ≡ false
    pub holds : F S
    pub least : (R : ℕ) → R < 2 ^ n → F R → AsLight c n S R

  abbrev pub Answer : ℕ → (ℕ → Type 0) → Option ℕ → Type 0
  Answer b F none = (R : ℕ) → R < 2 ^ n → F R → ⊥
  Answer b F (some S) = Found b F S

  -- the lighter of two answers, where F is what is in G or in H
  lighter-answer : (b : ℕ) (F G H : ℕ → Type 0) (r s : Option ℕ)
      → ((R : ℕ) → F R → G R ⊎ H R) → ((R : ℕ) → G R → F R) → ((R : ℕ) → H R → F R)
      → Answer b G r → Answer b H s → Answer b F (lighter c n r s)
  lighter-answer b F G H none none fg g h a d = λ R l f. ⊎_elim (a R l) (d R l) (fg R f)
  lighter-answer b F G H none (some S) fg g h a d =
      record { fits = d.fits; clear = d.clear; holds = h S d.holds; least = λ R l f. ⊎_elim (λ k. absurd (a R l k)) (d.least R l) (fg R f) }
  lighter-answer b F G H (some S) none fg g h a d =
      record { fits = a.fits; clear = a.clear; holds = g S a.holds; least = λ R l f. ⊎_elim (a.least R l) (λ k. absurd (d R l k)) (fg R f) }
  lighter-answer b F G H (some S) (some Q) fg g h a d = go (as_light c n S Q) refl
    where
      go : (x : Bool) → as_light c n S Q ≡ x → Answer b F (pick x (some S) (some Q))
      go true e =
          record {
            fits = a.fits;
            clear = a.clear;
            holds = g S a.holds;
            least = λ R l f. ⊎_elim (a.least R l) (λ k. as-light-trans c n S Q R (light-true S Q e) (d.least R l k)) (fg R f);
          }
      go false e =
          record {
            fits = d.fits;
            clear = d.clear;
            holds = h Q d.holds;
            least = λ R l f. ⊎_elim (λ k. as-light-trans c n Q S R (light-false S Q e) (a.least R l k)) (d.least R l) (fg R f);
          }

  -- v and an answer for the low side
  with-answer : (v : ℕ) (l : Tree) (b : ℕ) → b ≤ v → v < n → Ordered (suc v) l → (r : Option ℕ) → Answer (suc v) (Frees l) r → Answer b (With v l) (held v r)
  with-answer v l b lo lv o none a = λ R f g. a R f g.1
  with-answer v l b lo lv o (some S) a =
      record {
        fits = put-lt n S v a.fits lv;
        clear = λ w k. put_other S v w (omega arith) ∙ a.clear w (omega arith);
        holds = (put_same S v, at-cong l (suc v) (left (put S v)) (left S) o (left-put S v) ∙ a.holds);
        least = λ R f g.
            subst (λ z. AsLight c n (put S v) z) (put-cut R v g.0)
            ((put_order c n v lv S (cut R v) (a.clear v (omega arith)) (cut-same R v)).0
            (a.least (cut R v) (cut-lt n R v f) (at-cong l (suc v) (left (cut R v)) (left R) o (left_cut R v) ∙ g.1)));
      }

  -- an answer for the high side
  lacks-answer : (v : ℕ) (h : Tree) (b : ℕ) → b ≤ v → (r : Option ℕ) → Answer (suc v) (Frees h) r → Answer b (Lacks v h) r
  lacks-answer v h b lo none a = λ R f g. a R f g.1
  lacks-answer v h b lo (some S) a =
      record {
        fits = a.fits;
        clear = λ w k. a.clear w (omega arith);
        holds = (a.clear v (omega arith), a.holds);
        least = λ R f g. a.least R f g.1;
      }

  pub best-answer : (t : Tree) (b : ℕ) → Ordered b t → Under n t → Answer b (Frees t) (best c n t)
  best-answer off b o u = record { fits = pow_pos n; clear = λ v l. bit-zero v; holds = refl; least = λ R l f. empty-least R }
  best-answer on b o u = λ R l f. absurd (true≢false f)
  best-answer (br v l h) b o u =
      lighter-answer b (Frees (br v l h)) (With v l) (Lacks v h) (held v (best c n l)) (best c n h) (frees-br v l h)
      (λ R g. rw g.0 g.1) (λ R g. rw g.0 g.1)
      (with-answer v l b o.0 u.0 o.1 (best c n l) (best-answer l (suc v) o.1 u.1))
      (lacks-answer v h b o.0 (best c n h) (best-answer h (suc v) o.2 u.2))

-- ---- the lightest set out of a tree

-- S is a set of n flip-flops that takes t to 0, and no such set is lighter
pub record LightestFree (c : ℕ → ℕ) (n : ℕ) (t : Tree) (S : ℕ) : Type 0 where
  pub fits : S < 2 ^ n
  pub frees : Frees t S
  pub least : (R : ℕ) → R < 2 ^ n → Frees t R → Lighter c n R S → ⊥

-- a tree goes by its variables, which are below n
pub at_under : (n : ℕ) (t : Tree) → Under n t → (K K' : ℕ → Bool) → ((v : ℕ) → v < n → K v ≡ K' v) → at t K ≡ at t K'
at_under n off u K K' e = refl
at_under n on u K K' e = refl
at_under n (br v l h) u K K' e = rw (e v u.0, at_under n l u.1 K K' e, at_under n h u.2 K K' e)

-- each kept set is, as far as the tree sees, what a set of n flip-flops leaves
pub at_left : (n : ℕ) (t : Tree) → Under n t → (K : ℕ → Bool) → at t (left (those n (λ v. not (K v)))) ≡ at t K
at_left n t u K = at_under n t u (left (those n (λ v. not (K v)))) K (λ v l. ap not (those-in n (λ w. not (K w)) v l) ∙ not-not (K v))

module _ (c : ℕ → ℕ) (n : ℕ) (t : Tree) (o : Ordered 0 t) (u : Under n t) where
  answer : (r : Option ℕ) → best c n t ≡ r → Answer c n 0 (Frees t) r
  answer r e = subst (Answer c n 0 (Frees t)) e (best-answer c n t 0 o u)

  -- a set that is found is the lightest
  pub best-some : (S : ℕ) → best c n t ≡ some S → LightestFree c n t S
  best-some S e =
      let a : Found c n 0 (Frees t) S = answer (some S) e in
      record { fits = a.fits; frees = a.holds; least = λ R l f. (not-lighter c n S R).1 (a.least R l f) }

  -- some set is found where some set of n flip-flops takes the tree to 0
  pub best-there : (R : ℕ) → R < 2 ^ n → Frees t R → (S : ℕ) × (best c n t ≡ some S)
  best-there R l f = go (best c n t) refl
    where
      go : (r : Option ℕ) → best c n t ≡ r → (S : ℕ) × (best c n t ≡ some S)
      go none e = absurd (answer none e R l f)
      go (some S) e = (S, e)

  -- the lightest is found
  pub best-is : (S : ℕ) → (best c n t ≡ some S) ↔ LightestFree c n t S
  best-is S = (best-some S, back)
    where
      back : LightestFree c n t S → best c n t ≡ some S
      back l =
          let r = best-there S l.fits l.frees in
          let m : LightestFree c n t r.0 = best-some r.0 r.1 in
          let p : AsLight c n S r.0 = (not-lighter c n S r.0).0 (l.least r.0 m.fits m.frees) in
          let q : AsLight c n r.0 S = (not-lighter c n r.0 S).0 (m.least S l.fits l.frees) in
          r.1 ∙ ap some (as-light-both c n r.0 S q p)

  -- none is found exactly where no set takes the tree to 0
  pub best_none : (best c n t ≡ none) ↔ ((R : ℕ) → R < 2 ^ n → Frees t R → ⊥)
  best_none = (answer none, λ k. go (best c n t) refl k)
    where
      go : (r : Option ℕ) → best c n t ≡ r → ((R : ℕ) → R < 2 ^ n → Frees t R → ⊥) → best c n t ≡ none
      go none e k = e
      go (some S) e k =
          let l : LightestFree c n t S = best-some S e in
          absurd (k S l.fits l.frees)

  -- that is, where it is 1 everywhere
  pub best-none-on : (best c n t ≡ none) ↔ ((K : ℕ → Bool) → at t K ≡ true)
  best-none-on = (λ e K. forth e K (at t K) refl, λ k. best_none.1 (λ R l f. true≢false (sym (k (left R)) ∙ f)))
    where
      forth : best c n t ≡ none → (K : ℕ → Bool) (x : Bool) → at t K ≡ x → at t K ≡ true
      forth e K true f = f
      forth e K false f = absurd (best_none.0 e (those n (λ v. not (K v))) (those-lt n (λ v. not (K v))) (at_left n t u K ∙ f))

  -- so a set is found where the tree is 0 with nothing kept
  pub best-empty : at t (λ v. false) ≡ false → (S : ℕ) × (best c n t ≡ some S)
  best-empty f = best-there (those n (λ v. true)) (those-lt n (λ v. true)) (at_left n t u (λ v. false) ∙ f)
