-- The need of a list of functions: it is one number, it goes only by which functions are listed, and a longer list needs no less. Of the functions of good
-- trees it is the number of different decisions in them: a tree with its first variables fixed is one of its parts, and each part is got so. Assumes nothing.
use mathlib.Core.Path.{◌≡◌, refl, sym, ap, ◌∙◌, subst, fun_ext}
use mathlib.Core.Logic.{◌≢◌, ◌⊎◌, inl, inr, ⊎_elim, ◌↔◌}
use mathlib.Core.Bool.{Bool, true, false, ◌||◌, false≢true}
use mathlib.Core.List.{List, [], ◌∷◌, map}
use Prim.Native.Nat.{ℕ, suc, ◌+◌, ◌*◌, ◌/◌, ◌^◌, ◌≤◌, ◌<◌}
use native.Mathlib.Omega.{arith}
use native.Mathlib.Decide.{ℕ_discrete}
use lib.ListN.{length, length-map}
use lib.Pow.{pow_pos}
use lib.Dec.{ltb}
use borrow.Author.Tests.{ltb-true, ltb-false, le-ltb, lt-ltb}
use Rattle.masks.specs.Sets.{bit, pick, put, cut}
use Rattle.masks.proofs.Bits.{mix-low, mix-rest}
use Rattle.masks.proofs.PutCut.{put_same, put_other, put-lt, cut-same, cut-other, cut-lt}
use Rattle.graphs.specs.Graph.{Of, Differ}
use Rattle.graphs.proofs.Lists.{differ-le, differ-map, Of-left, Of-right, Of-cases, Of-map, Of-from}
use Rattle.trees.specs.Tree.{Tree, off, on, br, Tree-discrete, eval, Ordered, subs, subs_all, is_yes, has, once}
use Rattle.trees.specs.Need.{fix, Varies, Fixing, Counted, Need}
use Rattle.trees.proofs.Canonical.{Good, good-off, good-on, good-subs, canon, eval-cong}

-- ---- the need of any functions

-- every function of L is one of L'
abbrev pub Within : List (ℕ → Bool) → List (ℕ → Bool) → Type 0
Within L L' = (f : ℕ → Bool) → Of f L → Of f L'

counted-within : (L L' : List (ℕ → Bool)) → Within L L' → (g : ℕ → Bool) → Counted L g → Counted L' g
counted-within L L' w g c =
    let f = c.1 in
    (c.0, (f.0, w f.0 f.1, f.2))

-- a longer list needs no less
pub need-within : (L L' : List (ℕ → Bool)) (k k' : ℕ) → Within L L' → Need L k → Need L' k' → k ≤ k'
need-within L L' k k' w n n' =
    let p : length n.all ≤ length n'.all = differ-le n.all n'.all n.differ (λ g m. (n'.exact g).1 (counted-within L L' w g ((n.exact g).0 m))) in
    omega (arith, n.count, n'.count)

-- two numbers that are the need of one list are equal
pub need-unique : (L : List (ℕ → Bool)) (k k' : ℕ) → Need L k → Need L k' → k ≡ k'
need-unique L k k' n n' =
    let p : k ≤ k' = need-within L L k k' (λ f m. m) n n' in
    let q : k' ≤ k = need-within L L k' k (λ f m. m) n' n in
    omega arith

-- the need goes only by which functions are listed
pub need-once : (L L' : List (ℕ → Bool)) → ((f : ℕ → Bool) → Of f L ↔ Of f L') → (k : ℕ) → Need L k ↔ Need L' k
need-once L L' e k = (along L L' (λ f. (e f).0) (λ f. (e f).1), along L' L (λ f. (e f).1) (λ f. (e f).0))
  where
    along : (M M' : List (ℕ → Bool)) → Within M M' → Within M' M → Need M k → Need M' k
    along M M' w w' n =
        record {
          all = n.all;
          differ = n.differ;
          count = n.count;
          exact = λ g. ((λ m. counted-within M M' w g ((n.exact g).0 m)), λ c. (n.exact g).1 (counted-within M' M w' g c));
        }

-- ---- each tree once

has_of : (x : Tree) (ys : List Tree) → has x ys ≡ true → Of x ys
has_of x [] e = absurd (false≢true e)
has_of x (y ∷ ys) e = go (Tree-discrete ℕ_discrete x y) e (has_of x ys)
  where
    go : (d : Dec (x ≡ y)) → (is_yes d || has x ys) ≡ true → (has x ys ≡ true → Of x ys) → (x ≡ y) ⊎ Of x ys
    go (yes p) e ih = inl p
    go (no k) e ih = inr (ih e)

of-has : (x : Tree) (ys : List Tree) → Of x ys → has x ys ≡ true
of-has x [] h = absurd h
of-has x (y ∷ ys) h = go (Tree-discrete ℕ_discrete x y) h (of-has x ys)
  where
    go : (d : Dec (x ≡ y)) → (x ≡ y) ⊎ Of x ys → (Of x ys → has x ys ≡ true) → (is_yes d || has x ys) ≡ true
    go (yes p) h ih = refl
    go (no k) (inl p) ih = absurd (k p)
    go (no k) (inr h) ih = ih h

pub once-of : (x : Tree) (ys : List Tree) → Of x (once ys) ↔ Of x ys
once-of x [] = ((λ h. h), λ h. h)
once-of x (y ∷ ys) = go (has y (once ys)) refl (once-of x ys)
  where
    go : (b : Bool) → has y (once ys) ≡ b → Of x (once ys) ↔ Of x ys → Of x (pick b (once ys) (y ∷ once ys)) ↔ ((x ≡ y) ⊎ Of x ys)
    go true e ih = ((λ h. inr (ih.0 h)), ⊎_elim (λ p. subst (λ z. Of z (once ys)) (sym p) (has_of y (once ys) e)) ih.1)
    go false e ih = (⊎_elim (λ p. inl p) (λ h. inr (ih.0 h)), ⊎_elim (λ p. inl p) (λ h. inr (ih.1 h)))

pub once-differ : (ys : List Tree) → Differ (once ys)
once-differ [] = tt
once-differ (y ∷ ys) = go (has y (once ys)) refl (once-differ ys)
  where
    go : (b : Bool) → has y (once ys) ≡ b → Differ (once ys) → Differ (pick b (once ys) (y ∷ once ys))
    go true e d = d
    go false e d = ((λ h. false≢true (sym e ∙ of-has y (once ys) h)), d)

-- ---- a tree with its first variables fixed

-- t with the variables below j fixed as in a
fixed : ℕ → ℕ → Tree → Tree
fixed j a off = off
fixed j a on = on
fixed j a (br v l h) = pick (ltb v j) (pick (bit a v) (fixed j a h) (fixed j a l)) (br v l h)

fixed-eval : (j a : ℕ) → a < 2 ^ j → (t : Tree) (b : ℕ) → Ordered b t → (m : ℕ) → eval (fixed j a t) m ≡ fix j a (eval t) m
unfolding fixed
fixed-eval j a la off b o m = refl
fixed-eval j a la on b o m = refl
fixed-eval j a la (br v l h) b o m =
    go (ltb v j) refl (bit a v) refl (fixed-eval j a la l (suc v) o.1 m) (fixed-eval j a la h (suc v) o.2 m)
  where
    M : ℕ
    M = a + 2 ^ j * (m / 2 ^ j)

    go : (x : Bool) → ltb v j ≡ x → (y : Bool) → bit a v ≡ y → eval (fixed j a l) m ≡ eval l M → eval (fixed j a h) m ≡ eval h M
        → eval (pick x (pick y (fixed j a h) (fixed j a l)) (br v l h)) m ≡ eval (br v l h) M
    go true e true f il ih = rw (mix-low j a (m / 2 ^ j) v la (ltb-true v j e), f) ih
    go true e false f il ih = rw (mix-low j a (m / 2 ^ j) v la (ltb-true v j e), f) il
    go false e y f il ih =
        let k : j ≤ v = ltb-false v j e in
        eval-cong (br v l h) v m M (omega arith, o.1, o.2) (λ w i. sym (mix-rest j a m w la (omega arith)))

-- it is a constant or begins at a decision of t
fixed_sub : (j a : ℕ) (t : Tree) → ((fixed j a t ≡ off) ⊎ (fixed j a t ≡ on)) ⊎ Of (fixed j a t) (subs t)
unfolding fixed
fixed_sub j a off = inl (inl refl)
fixed_sub j a on = inl (inr refl)
fixed_sub j a (br v l h) = go (ltb v j) (bit a v) (fixed_sub j a l) (fixed_sub j a h)
  where
    Part : Tree → Tree → Type 0
    Part t s = ((s ≡ off) ⊎ (s ≡ on)) ⊎ Of s (subs t)

    go : (x y : Bool) → Part l (fixed j a l) → Part h (fixed j a h) → Part (br v l h) (pick x (pick y (fixed j a h) (fixed j a l)) (br v l h))
    go true true il ih = ⊎_elim (λ k. inl k) (λ k. inr (inr (Of-right _ (subs l) (subs h) k))) ih
    go true false il ih = ⊎_elim (λ k. inl k) (λ k. inr (inr (Of-left _ (subs l) (subs h) k))) il
    go false y il ih = inr (inl refl)

fixed-cong : (j a a' : ℕ) (t : Tree) (b : ℕ) → Ordered b t → ((v : ℕ) → b ≤ v → bit a v ≡ bit a' v) → fixed j a t ≡ fixed j a' t
unfolding fixed
fixed-cong j a a' off b o e = refl
fixed-cong j a a' on b o e = refl
fixed-cong j a a' (br v l h) b o e =
    let lo : b ≤ v = o.0 in
    rw (e v lo, fixed-cong j a a' l (suc v) o.1 (λ w k. e w (omega arith)), fixed-cong j a a' h (suc v) o.2 (λ w k. e w (omega arith)))

fixed-here : (v : ℕ) (l h : Tree) → fixed v 0 (br v l h) ≡ br v l h
unfolding fixed
fixed-here v l h = rw (le-ltb v v (omega arith))

fixed-low : (j a v : ℕ) (l h : Tree) → v < j → bit a v ≡ false → fixed j a (br v l h) ≡ fixed j a l
unfolding fixed
fixed-low j a v l h k e = rw (lt-ltb v j k, e)

fixed-high : (j a v : ℕ) (l h : Tree) → v < j → bit a v ≡ true → fixed j a (br v l h) ≡ fixed j a h
unfolding fixed
fixed-high j a v l h k e = rw (lt-ltb v j k, e)

-- each part of t is got by fixing: the decisions on the way to it say how
record Got (b : ℕ) (t s : Tree) : Type 0 where
  upto : ℕ
  way : ℕ
  past : b ≤ upto
  small : way < 2 ^ upto
  is : fixed upto way t ≡ s

got : (t : Tree) (b : ℕ) → Ordered b t → (s : Tree) → Of s (subs t) → Got b t s
got off b o s h = absurd h
got on b o s h = absurd h
got (br v l h) b o s (inl e) = record { upto = v; way = 0; past = o.0; small = pow_pos v; is = fixed-here v l h ∙ sym e }
got (br v l h) b o s (inr k) = ⊎_elim (λ i. low (got l (suc v) o.1 s i)) (λ i. high (got h (suc v) o.2 s i)) (Of-cases s (subs l) (subs h) k)
  where
    lo : b ≤ v
    lo = o.0

    -- on side t, by a way that takes that side at v and from there on is the way in t
    side : (t : Tree) → Ordered (suc v) t → (g : Got (suc v) t s) (way : ℕ) → way < 2 ^ g.upto → fixed g.upto way (br v l h) ≡ fixed g.upto way t
        → ((w : ℕ) → suc v ≤ w → bit way w ≡ bit g.way w) → Got b (br v l h) s
    side t ot g way small down same =
        let p : suc v ≤ g.upto = g.past in
        record { upto = g.upto; way = way; past = omega (arith, lo); small = small; is = down ∙ fixed-cong g.upto way g.way t (suc v) ot same ∙ g.is }

    low : Got (suc v) l s → Got b (br v l h) s
    low g =
        side l o.1 g (cut g.way v) (cut-lt g.upto g.way v g.small)
        (fixed-low g.upto (cut g.way v) v l h g.past (cut-same g.way v)) (λ w i. cut-other g.way v w (omega arith))

    high : Got (suc v) h s → Got b (br v l h) s
    high g =
        side h o.2 g (put g.way v) (put-lt g.upto g.way v g.small g.past)
        (fixed-high g.upto (put g.way v) v l h g.past (put_same g.way v)) (λ w i. put_other g.way v w (omega arith))

-- ---- the need of trees

abbrev pub AllGood : List Tree → Type 0
AllGood [] = Unit {0}
AllGood (t ∷ ts) = Good 0 t × AllGood ts

pub good_of : (ts : List Tree) → AllGood ts → (t : Tree) → Of t ts → Good 0 t
good_of [] g t h = absurd h
good_of (x ∷ ts) g t (inl e) = subst (Good 0) (sym e) g.0
good_of (x ∷ ts) g t (inr h) = good_of ts g.1 t h

-- a decision of one of the trees
pub subs-from : (ts : List Tree) (s : Tree) → Of s (subs_all ts) → (t : Tree) × Of t ts × Of s (subs t)
subs-from [] s h = absurd h
subs-from (x ∷ ts) s h = ⊎_elim (λ k. (x, inl refl, k)) (λ k. let r = subs-from ts s k in (r.0, inr r.1, r.2)) (Of-cases s (subs x) (subs_all ts) h)

pub subs-to : (ts : List Tree) (t s : Tree) → Of t ts → Of s (subs t) → Of s (subs_all ts)
subs-to [] t s h k = absurd h
subs-to (x ∷ ts) t s (inl e) k = Of-left s (subs x) (subs_all ts) (subst (λ z. Of s (subs z)) e k)
subs-to (x ∷ ts) t s (inr h) k = Of-right s (subs x) (subs_all ts) (subs-to ts t s h k)

-- a decision is no constant
branch : (t s : Tree) → Of s (subs t) → (s ≢ off) × (s ≢ on)
branch off s h = absurd h
branch on s h = absurd h
branch (br v l h) s (inl e) = ((λ p. let z : ◌≡◌ {A = ℕ} 0 1 = cc in omega arith), λ p. let z : ◌≡◌ {A = ℕ} 0 1 = cc in omega arith)
branch (br v l h) s (inr k) = ⊎_elim (branch l s) (branch h s) (Of-cases s (subs l) (subs h) k)

-- nor is its function
varies : (s : Tree) → Good 0 s → s ≢ off → s ≢ on → Varies (eval s)
varies s g p q c = go (eval s 0) refl
  where
    go : (x : Bool) → eval s 0 ≡ x → ⊥
    go true e = q (canon 0 0 s on g (good-on 0) (λ m. c m 0 ∙ e))
    go false e = p (canon 0 0 s off g (good-off 0) (λ m. c m 0 ∙ e))

-- the function of a constant is constant
flat : (g : ℕ → Bool) (s : Tree) → g ≡ eval s → (s ≡ off) ⊎ (s ≡ on) → (p q : ℕ) → g p ≡ g q
flat g s e (inl k) p q = rw (e, k)
flat g s e (inr k) p q = rw (e, k)

-- the need of the functions of good trees is the number of different decisions in them
pub need-trees : (ts : List Tree) → AllGood ts → Need (map eval ts) (length (once (subs_all ts)))
need-trees ts good =
    record {
      all = map eval nodes;
      differ = differ-map eval nodes inj (once-differ (subs_all ts));
      count = length-map nodes eval;
      exact = λ g. (forth g, back g);
    }
  where
    nodes : List Tree
    nodes = once (subs_all ts)

    whence : (s : Tree) → Of s nodes → (t : Tree) × Of t ts × Of s (subs t)
    whence s h = subs-from ts s ((once-of s (subs_all ts)).0 h)

    fine : (s : Tree) → Of s nodes → Good 0 s
    fine s h =
        let r = whence s h in
        good-subs r.0 0 (good_of ts good r.0 r.1) s r.2

    inj : (x y : Tree) → Of x nodes → Of y nodes → eval x ≡ eval y → x ≡ y
    inj x y p q e = canon 0 0 x y (fine x p) (fine y q) (λ m. ap (λ f. f m) e)

    forth : (g : ℕ → Bool) → Of g (map eval nodes) → Counted (map eval ts) g
    forth g h =
        let r = Of-from eval g nodes h in
        let w = whence r.0 r.1 in
        let b = branch w.0 r.0 w.2 in
        let o : Ordered 0 w.0 = (good_of ts good w.0 w.1).ordered in
        let d : Got 0 w.0 r.0 = got w.0 0 o r.0 w.2 in (
          subst Varies (sym r.2) (varies r.0 (fine r.0 r.1) b.0 b.1),
          (
            eval w.0,
            Of-map eval w.0 ts w.1,
            (d.upto, d.way, d.small, r.2 ∙ ap eval (sym d.is) ∙ fun_ext (fixed-eval d.upto d.way d.small w.0 0 o)),
          ),
        )

    back : (g : ℕ → Bool) → Counted (map eval ts) g → Of g (map eval nodes)
    back g c =
        let f : (f : ℕ → Bool) × Of f (map eval ts) × Fixing g f = c.1 in
        let r = Of-from eval f.0 ts f.1 in
        let j : ℕ = f.2.0 in
        let a : ℕ = f.2.1 in
        let s : Tree = fixed j a r.0 in
        let o : Ordered 0 r.0 = (good_of ts good r.0 r.1).ordered in
        let e : g ≡ eval s = f.2.3 ∙ ap (fix j a) r.2 ∙ sym (fun_ext (fixed-eval j a f.2.2 r.0 0 o)) in
        ⊎_elim (λ k. absurd (c.0 (flat g s e k)))
        (λ k. subst (λ z. Of z (map eval nodes)) (sym e) (Of-map eval s nodes ((once-of s (subs_all ts)).1 (subs-to ts r.0 s r.1 k))))
        (fixed_sub j a r.0)
