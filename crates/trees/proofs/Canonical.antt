-- Equal functions are equal trees, where the trees are ordered and reduced: a tree doesn't see the variables above its top one, so the sides of a branch
-- are the function with the top variable fixed, and a branch over a function that doesn't see its variable would have two equal sides. Shown by induction
-- on both trees. Assumes nothing.
use mathlib.Core.Path.{◌≡◌, refl, sym, ap, ◌∙◌, subst}
use mathlib.Core.Logic.{inl, inr, ⊎_elim, ◌↔◌}
use mathlib.Core.Bool.{Bool, true, false, true≢false, false≢true}
use Prim.Native.Nat.{ℕ, suc, ◌≤◌, compare, Ordering}
use native.Mathlib.Omega.{arith}
use Rattle.masks.specs.Sets.{bit, put, cut}
use Rattle.masks.proofs.PutCut.{put_same, put_other, cut-same, cut-other}
use Rattle.graphs.specs.Graph.{Of}
use Rattle.graphs.proofs.Lists.{Of-cases}
use Rattle.trees.specs.Tree.{Tree, off, on, br, at, eval, Ordered, Reduced, subs}
use Rattle.masks.proofs.Tests.{Stand, stand}

-- ---- what a tree sees

-- a tree goes by the variables from its bound on, and by no other
pub at-cong : (t : Tree) (b : ℕ) (K K' : ℕ → Bool) → Ordered b t → ((v : ℕ) → b ≤ v → K v ≡ K' v) → at t K ≡ at t K'
at-cong off b K K' o e = refl
at-cong on b K K' o e = refl
at-cong (br v l h) b K K' o e =
    let lo : b ≤ v = o.0 in
    rw (e v lo, at-cong l (suc v) K K' o.1 (λ w k. e w (omega arith)), at-cong h (suc v) K K' o.2 (λ w k. e w (omega arith)))

pub eval-cong : (t : Tree) (b m m' : ℕ) → Ordered b t → ((v : ℕ) → b ≤ v → bit m v ≡ bit m' v) → eval t m ≡ eval t m'
eval-cong t b m m' = at-cong t b (bit m) (bit m')

-- so it doesn't see a variable above its bound
cut-unseen : (t : Tree) (v m : ℕ) → Ordered (suc v) t → eval t (cut m v) ≡ eval t m
cut-unseen t v m o = eval-cong t (suc v) (cut m v) m o (λ w k. cut-other m v w (omega arith))

put-unseen : (t : Tree) (v m : ℕ) → Ordered (suc v) t → eval t (put m v) ≡ eval t m
put-unseen t v m o = eval-cong t (suc v) (put m v) m o (λ w k. put_other m v w (omega arith))

-- the sides of a branch, as functions
low-side : (v : ℕ) (l h : Tree) (m : ℕ) → Ordered (suc v) l → eval (br v l h) (cut m v) ≡ eval l m
low-side v l h m o = rw (cut-same m v) (cut-unseen l v m o)

high-side : (v : ℕ) (l h : Tree) (m : ℕ) → Ordered (suc v) h → eval (br v l h) (put m v) ≡ eval h m
high-side v l h m o = rw (put_same m v) (put-unseen h v m o)

pub ordered-down : (t : Tree) (b b' : ℕ) → b' ≤ b → Ordered b t → Ordered b' t
ordered-down off b b' k o = tt
ordered-down on b b' k o = tt
ordered-down (br v l h) b b' k o =
    let lo : b ≤ v = o.0 in
    (omega arith, o.1, o.2)

-- ---- good trees: ordered from b on, and reduced

pub record Good (b : ℕ) (t : Tree) : Type 0 where
  pub ordered : Ordered b t
  pub reduced : Reduced t

pub good-off : (b : ℕ) → Good b off
good-off b = record { ordered = tt; reduced = tt }

pub good-on : (b : ℕ) → Good b on
good-on b = record { ordered = tt; reduced = tt }

-- a variable
pub good-var : (b v : ℕ) → b ≤ v → Good b (br v off on)
good-var b v k = record { ordered = (k, tt, tt); reduced = ((λ e. let z : ◌≡◌ {A = ℕ} 0 1 = cc in omega arith), tt, tt) }

pub good-low : {b v : ℕ} {l h : Tree} → Good b (br v l h) → Good (suc v) l
good-low g = record { ordered = g.ordered.1; reduced = g.reduced.1 }

pub good-high : {b v : ℕ} {l h : Tree} → Good b (br v l h) → Good (suc v) h
good-high g = record { ordered = g.ordered.2; reduced = g.reduced.2 }

-- the bound of a branch may be any up to its variable
pub good-from : {b v : ℕ} {l h : Tree} (b' : ℕ) → b' ≤ v → Good b (br v l h) → Good b' (br v l h)
good-from b' k g = record { ordered = (k, g.ordered.1, g.ordered.2); reduced = g.reduced }

pub good-down : (t : Tree) (b b' : ℕ) → b' ≤ b → Good b t → Good b' t
good-down t b b' k g = record { ordered = ordered-down t b b' k g.ordered; reduced = g.reduced }

-- every decision of a good tree begins a good tree
pub good-subs : (t : Tree) (b : ℕ) → Good b t → (s : Tree) → Of s (subs t) → Good 0 s
good-subs off b g s h = absurd h
good-subs on b g s h = absurd h
good-subs (br v l h) b g s (inl e) = subst (Good 0) (sym e) (good-from 0 (omega arith) g)
good-subs (br v l h) b g s (inr k) =
    ⊎_elim (good-subs l (suc v) (good-low g) s) (good-subs h (suc v) (good-high g) s) (Of-cases s (subs l) (subs h) k)

-- ---- equal functions are equal trees

abbrev pub Same : Tree → Tree → Type 0
Same s t = (m : ℕ) → eval s m ≡ eval t m

constant : Bool → Tree
constant true = on
constant false = off

-- a good tree with one value everywhere is that constant
good-constant : (t : Tree) (b : ℕ) (x : Bool) → Good b t → ((m : ℕ) → eval t m ≡ x) → t ≡ constant x
unfolding constant
good-constant off b true g e = absurd (false≢true (e 0))
good-constant off b false g e = refl
good-constant on b true g e = refl
good-constant on b false g e = absurd (true≢false (e 0))
good-constant (br v l h) b x g e =
    let low : l ≡ constant x = good-constant l (suc v) x (good-low g) (λ m. sym (low-side v l h m g.ordered.1) ∙ e (cut m v)) in
    let high : h ≡ constant x = good-constant h (suc v) x (good-high g) (λ m. sym (high-side v l h m g.ordered.2) ∙ e (put m v)) in
    absurd (g.reduced.0 (low ∙ sym high))

-- s is the only good tree of its function
abbrev Only : Tree → Type 0
Only s = (t : Tree) (b : ℕ) → Good b t → Same s t → s ≡ t

-- a branch, where its sides are the only ones of theirs
only-br : (v : ℕ) (l h : Tree) (b : ℕ) → Good b (br v l h) → Only l → Only h → Only (br v l h)
unfolding constant
only-br v l h b g ol oh off b' g' e = good-constant (br v l h) b false g e
only-br v l h b g ol oh on b' g' e = good-constant (br v l h) b true g e
only-br v l h b g ol oh (br w p q) b' g' e =
    go (compare v w) (stand v w) (only-br v l h b g ol oh p (suc w) (good-low g')) (only-br v l h b g ol oh q (suc w) (good-high g'))
  where
    -- the sides of the one branch, at v, against a tree t of the same function
    low : (t : Tree) → Ordered (suc v) l → ((m : ℕ) → eval (br w p q) (cut m v) ≡ eval t m) → Same l t
    low t o f m = sym (low-side v l h m o) ∙ e (cut m v) ∙ f m

    high : (t : Tree) → Ordered (suc v) h → ((m : ℕ) → eval (br w p q) (put m v) ≡ eval t m) → Same h t
    high t o f m = sym (high-side v l h m o) ∙ e (put m v) ∙ f m

    go : (o : Ordering) → Stand o v w → (Same (br v l h) p → br v l h ≡ p) → (Same (br v l h) q → br v l h ≡ q) → br v l h ≡ br w p q
    go Ordering.lt k ip iq =
        let r : Good (suc v) (br w p q) = good-from (suc v) k g' in
        absurd
        (g.reduced.0
        (ol (br w p q) (suc v) r (low (br w p q) g.ordered.1 (λ m. cut-unseen (br w p q) v m r.ordered))
        ∙ sym (oh (br w p q) (suc v) r (high (br w p q) g.ordered.2 (λ m. put-unseen (br w p q) v m r.ordered)))))
    go Ordering.gt k ip iq =
        let r : Good (suc w) (br v l h) = good-from (suc w) k g in
        absurd
        (g'.reduced.0
        (sym (ip (λ m. sym (cut-unseen (br v l h) w m r.ordered) ∙ e (cut m w) ∙ low-side w p q m g'.ordered.1))
        ∙ iq (λ m. sym (put-unseen (br v l h) w m r.ordered) ∙ e (put m w) ∙ high-side w p q m g'.ordered.2)))
    go Ordering.eq k ip iq =
        let gp : Good (suc v) p = subst (λ x. Good (suc x) p) (sym k) (good-low g') in
        let gq : Good (suc v) q = subst (λ x. Good (suc x) q) (sym k) (good-high g') in
        let lp : l ≡ p = ol p (suc v) gp (low p g.ordered.1 (λ m. rw (← k) (low-side v p q m gp.ordered))) in
        let hq : h ≡ q = oh q (suc v) gq (high q g.ordered.2 (λ m. rw (← k) (high-side v p q m gq.ordered))) in
        cc

good-only : (s : Tree) (b : ℕ) → Good b s → Only s
unfolding constant
good-only off b g t b' g' e = sym (good-constant t b' false g' (λ m. sym (e m)))
good-only on b g t b' g' e = sym (good-constant t b' true g' (λ m. sym (e m)))
good-only (br v l h) b g t b' g' e =
    only-br v l h b g (good-only l (suc v) (good-low g)) (good-only h (suc v) (good-high g)) t b' g' e

pub canon : (b b' : ℕ) (s t : Tree) → Good b s → Good b' t → Same s t → s ≡ t
canon b b' s t g g' = good-only s b g t b' g'

-- equal functions are equal trees, and the other way round
pub canonical : (s t : Tree) → Good 0 s → Good 0 t → Same s t ↔ (s ≡ t)
canonical s t g g' = (canon 0 0 s t g g', λ e m. ap (λ x. eval x m) e)
