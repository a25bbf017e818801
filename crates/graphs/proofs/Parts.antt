-- A graph in parts that no closed walk joins: a set meets its loops exactly where it meets those inside each part, and its lightest set is the lightest
-- sets of the parts together. Shown by adding up over the list of parts, whose sets are apart. Assumes nothing.
use mathlib.Core.Path.{◌≡◌, refl, sym, subst}
use mathlib.Core.Logic.{◌⊎◌, inl, inr, ⊎_elim, ◌↔◌}
use mathlib.Core.Bool.{Bool, ◌&&◌}
use mathlib.Core.List.{List, [], ◌∷◌, map}
use Prim.Native.Nat.{ℕ, ◌+◌, ◌<◌, ◌^◌}
use native.Mathlib.Omega.{arith}
use native.Mathlib.Decide.{dec_lt}
use lib.Bits.{bit_and, bit_or, or_lt, and_le_l}
use lib.Dec.{T, T_not}
use lib.Pow.{pow_pos}
use Rattle.masks.specs.Sets.{bit, weight}
use Rattle.masks.proofs.Tests.{T_and, and_T, T-or, or_l, or_r, T-no}
use Rattle.masks.proofs.Bits.{bit-or, bit-and, bit-zero}
use Rattle.graphs.specs.Graph.{Of, Walk, edge_to, step_to}
use Rattle.graphs.specs.Light.{left}
use Rattle.graphs.specs.Components.{inside}
use Rattle.masks.proofs.Weights.{apart-add, apart-weight, within-le, within-weight}
use Rattle.graphs.proofs.Lists.{Of-from}
use Rattle.graphs.proofs.Walks.{start-kept, snoc, carry, widen}
use Rattle.graphs.proofs.Loops.{Hits}
use Rattle.graphs.proofs.Lightest.{AsLight, Least, as-light-trans}

-- each member of S is one of C
abbrev pub Within : ℕ → ℕ → Type 0
Within C S = (v : ℕ) → T (bit S v) → T (bit C v)

-- no flip-flop is in both
abbrev pub Apart : ℕ → ℕ → Type 0
Apart A B = (v : ℕ) → T (bit A v) → T (bit B v) → ⊥

-- ---- the sets of a list together

abbrev pub joined : List ℕ → ℕ
joined [] = 0
joined (S ∷ Ss) = bit_or S (joined Ss)

pub joined-cases : (Ss : List ℕ) (v : ℕ) → T (bit (joined Ss) v) → (S : ℕ) × Of S Ss × T (bit S v)
joined-cases [] v t = absurd (subst T (bit-zero v) t)
joined-cases (S ∷ Ss) v t =
    ⊎_elim (λ s. (S, inl refl, s)) (λ s. let r = joined-cases Ss v s in (r.0, inr r.1, r.2))
    (T-or (bit S v) (bit (joined Ss) v) (subst T (bit-or S (joined Ss) v) t))

pub joined-holds : (Ss : List ℕ) (S v : ℕ) → Of S Ss → T (bit S v) → T (bit (joined Ss) v)
joined-holds [] S v h t = absurd h
joined-holds (R ∷ Ss) S v (inl e) t = rw (bit-or R (joined Ss) v) (or_l (bit R v) (bit (joined Ss) v) (subst (λ z. T (bit z v)) e t))
joined-holds (R ∷ Ss) S v (inr h) t = rw (bit-or R (joined Ss) v) (or_r (bit R v) (bit (joined Ss) v) (joined-holds Ss S v h t))

pub joined-lt : (n : ℕ) (Ss : List ℕ) → ((S : ℕ) → Of S Ss → S < 2 ^ n) → joined Ss < 2 ^ n
joined-lt n [] h = pow_pos n
joined-lt n (S ∷ Ss) h = or_lt n S (joined Ss) (h S (inl refl)) (joined-lt n Ss (λ R m. h R (inr m)))

-- ---- walks inside a part

pub inside-edge : (E : ℕ → ℕ → Bool) (C u w : ℕ) → T (inside E C u w) → T (bit C u) × T (bit C w) × T (E u w)
inside-edge E C u w t =
    let p = T_and (bit C u && bit C w) (E u w) t in
    let q = T_and (bit C u) (bit C w) p.0 in
    (q.0, q.1, p.1)

edge-inside : (E : ℕ → ℕ → Bool) (C u w : ℕ) → T (bit C u) → T (bit C w) → T (E u w) → T (inside E C u w)
edge-inside E C u w a b e = and_T (bit C u && bit C w) (E u w) (and_T (bit C u) (bit C w) a b) e

-- what is kept matters only inside
pub inside-walk : (E : ℕ → ℕ → Bool) (C : ℕ) {K K' : ℕ → Bool} {a b : ℕ} → ((v : ℕ) → T (bit C v) → T (K v) → T (K' v))
    → Walk (inside E C) K a b → Walk (inside E C) K' a b
inside-walk E C h p = carry (λ u w k l e. let r = inside-edge E C u w e in (h u r.0 k, h w r.1 l, e)) p

pub outside-walk : (E : ℕ → ℕ → Bool) (C : ℕ) {K : ℕ → Bool} {a b : ℕ} → Walk (inside E C) K a b → Walk E K a b
outside-walk E C p = widen (λ v k. k) (λ u w e. (inside-edge E C u w e).2) p

-- a walk between two of C is inside C where C holds each flip-flop on the way
pub stay : (E : ℕ → ℕ → Bool) (C : ℕ) (K : ℕ → Bool) (v w : ℕ) → T (bit C v) → T (bit C w)
    → ((x : ℕ) → Walk E K v x → Walk E K x w → T (bit C x)) → Walk E K v w → Walk (inside E C) K v w
stay E C K v w mv mw holds p = go mv (inl refl) p
  where
    go : {a : ℕ} → T (bit C a) → (a ≡ v) ⊎ Walk E K v a → Walk E K a w → Walk (inside E C) K a w
    go {a} ma f (edge_to k l e) = edge_to k l (edge-inside E C a w ma mw e)
    go {a} ma f (step_to {x = x} k e q) =
        let to : Walk E K v x = ⊎_elim (λ r. subst (λ z. Walk E K z x) r (edge_to k (start-kept q) e)) (λ r. snoc r e (start-kept q)) f in
        let mx : T (bit C x) = holds x to q in
        step_to k (edge-inside E C a x ma mx e) (go mx (inr to) q)

-- ---- parts

abbrev pub AllApart : List ℕ → Type 0
AllApart [] = Unit {0}
AllApart (C ∷ Cs) = ((D : ℕ) → Of D Cs → Apart C D) × AllApart Cs

-- the parts are apart, and a closed walk is inside one of them
pub record Parted (E : ℕ → ℕ → Bool) (Cs : List ℕ) : Type 0 where
  pub apart : AllApart Cs
  pub covers : (K : ℕ → Bool) (v : ℕ) → Walk E K v v → (C : ℕ) × Of C Cs × Walk (inside E C) K v v

pub parts-hits : (E : ℕ → ℕ → Bool) (Cs : List ℕ) → Parted E Cs → (S : ℕ) → Hits E S ↔ ((C : ℕ) → Of C Cs → Hits (inside E C) S)
parts-hits E Cs parted S = (
  (λ h C m w p. h w (outside-walk E C p)),
  λ h w p. let r = parted.covers (left S) w p in h r.0 r.1 w r.2,
)

-- a set of the list for each part, the lightest of those within it
abbrev pub Bests : (ℕ → ℕ) → ℕ → (ℕ → ℕ → Bool) → List ℕ → List ℕ → Type 0
Bests c n E [] [] = Unit {0}
Bests c n E [] (S ∷ Ss) = ⊥
Bests c n E (C ∷ Cs) [] = ⊥
Bests c n E (C ∷ Cs) (S ∷ Ss) = Least c n (Within C) (inside E C) S × Bests c n E Cs Ss

pub bests-map : (c : ℕ → ℕ) (n : ℕ) (E : ℕ → ℕ → Bool) (f : ℕ → ℕ) (Cs : List ℕ) → ((C : ℕ) → Of C Cs → Least c n (Within C) (inside E C) (f C))
    → Bests c n E Cs (map f Cs)
bests-map c n E f [] h = tt
bests-map c n E f (C ∷ Cs) h = (h C (inl refl), bests-map c n E f Cs (λ D m. h D (inr m)))

-- what a set leaves, a set inside it leaves
left-within : (C S v : ℕ) → (T (bit S v) → T (bit C v)) → T (left C v) → T (left S v)
left-within C S v h t = T-no (bit S v) (λ s. T_not (bit C v) t (h s))

-- a set inside another is as light
within-light : (c : ℕ → ℕ) (n C S : ℕ) → Within C S → AsLight c n S C
within-light c n C S h = go (dec_lt (weight c n S) (weight c n C))
  where
    go : Dec (weight c n S < weight c n C) → AsLight c n S C
    go (yes l) = inl l
    go (no k) =
        let k' : ¬ (weight c n S < weight c n C) = k in
        inr (omega (arith, within-weight c n C S h), within-le C S h)

-- two sets that are apart, each as light as another: so are they together
sum-light : (c : ℕ → ℕ) (n A B A' B' : ℕ) → A < 2 ^ n → B < 2 ^ n → A' < 2 ^ n → B' < 2 ^ n → Apart A B → Apart A' B' → AsLight c n A A' → AsLight c n B B'
    → AsLight c n (bit_or A B) (bit_or A' B')
sum-light c n A B A' B' a b a' b' d d' p q =
    go (bit_or A B) (bit_or A' B') (apart-add A B d n a b) (apart-add A' B' d' n a' b') (apart-weight A B d c n) (apart-weight A' B' d' c n) p q
  where
    go : (S R : ℕ) → S ≡ A + B → R ≡ A' + B' → weight c n S ≡ weight c n A + weight c n B → weight c n R ≡ weight c n A' + weight c n B'
        → AsLight c n A A' → AsLight c n B B' → AsLight c n S R
    go S R e f g h (inl p) (inl q) = inl (omega arith)
    go S R e f g h (inl p) (inr q) = inl (omega arith)
    go S R e f g h (inr p) (inl q) = inl (omega arith)
    go S R e f g h (inr p) (inr q) = inr (omega arith, omega arith)

module _ (c : ℕ → ℕ) (n : ℕ) (E : ℕ → ℕ → Bool) where
  -- the set of a part, and the part of a set
  bests-at : (Cs Ss : List ℕ) → Bests c n E Cs Ss → (C : ℕ) → Of C Cs → (S : ℕ) × Of S Ss × Least c n (Within C) (inside E C) S
  bests-at [] Ss b C h = absurd h
  bests-at (D ∷ Cs) [] b C _ = absurd b
  bests-at (D ∷ Cs) (S ∷ Ss) b C (inl e) = (S, inl refl, subst (λ z. Least c n (Within z) (inside E z) S) (sym e) b.0)
  bests-at (D ∷ Cs) (S ∷ Ss) b C (inr m) =
      let r = bests-at Cs Ss b.1 C m in
      (r.0, inr r.1, r.2)

  bests-of : (Cs Ss : List ℕ) → Bests c n E Cs Ss → (S : ℕ) → Of S Ss → (C : ℕ) × Of C Cs × (S < 2 ^ n) × Within C S
  bests-of [] [] b S m = absurd m
  bests-of [] (R ∷ Ss) b S m = absurd b
  bests-of (C ∷ Cs) [] b S m = absurd m
  bests-of (C ∷ Cs) (R ∷ Ss) b S (inl e) = (C, inl refl, rw e b.0.fits, rw e b.0.allowed)
  bests-of (C ∷ Cs) (R ∷ Ss) b S (inr m) =
      let r = bests-of Cs Ss b.1 S m in
      (r.0, inr r.1, r.2, r.3)

  module _ (R : ℕ) (lr : R < 2 ^ n) (hits : Hits E R) where
    -- the part of R in C
    part_in : (C v : ℕ) → T (bit (bit_and R C) v) → T (bit R v) × T (bit C v)
    part_in C v t = T_and (bit R v) (bit C v) (subst T (bit-and R C v) t)

    part-lt : (C : ℕ) → bit_and R C < 2 ^ n
    part-lt C = omega (arith, and_le_l R C)

    part-hits : (C : ℕ) → Hits (inside E C) (bit_and R C)
    part-hits C w p = hits w (outside-walk E C (inside-walk E C keep p))
      where
        keep : (v : ℕ) → T (bit C v) → T (left (bit_and R C) v) → T (left R v)
        keep v m t = T-no (bit R v) (λ r. T_not (bit (bit_and R C) v) t (rw (bit-and R C v) (and_T (bit R v) (bit C v) r m)))

    -- of all the parts together
    parts-of : List ℕ → ℕ
    parts-of Cs = joined (map (bit_and R) Cs)

    parts_in : (Cs : List ℕ) (v : ℕ) → T (bit (parts-of Cs) v) → T (bit R v) × ((C : ℕ) × Of C Cs × T (bit C v))
    unfolding parts-of
    parts_in Cs v t =
        let r = joined-cases (map (bit_and R) Cs) v t in
        let q = Of-from (bit_and R) r.0 Cs r.1 in
        let p = part_in q.0 v (subst (λ z. T (bit z v)) q.2 r.2) in
        (p.0, (q.0, q.1, p.1))

    parts-lt : (Cs : List ℕ) → parts-of Cs < 2 ^ n
    unfolding parts-of
    parts-lt Cs = joined-lt n (map (bit_and R) Cs) (λ S m. let q = Of-from (bit_and R) S Cs m in rw q.2 (part-lt q.0))

    -- the sets of the parts are as light
    parts-light : (Cs Ss : List ℕ) → AllApart Cs → Bests c n E Cs Ss → AsLight c n (joined Ss) (parts-of Cs)
    unfolding parts-of
    parts-light [] [] a b = inr (refl, omega arith)
    parts-light [] (S ∷ Ss) a b = absurd b
    parts-light (C ∷ Cs) [] a b = absurd b
    parts-light (C ∷ Cs) (S ∷ Ss) a b =
        sum-light c n S (joined Ss) (bit_and R C) (parts-of Cs) b.0.fits (joined-lt n Ss (λ Q m. (bests-of Cs Ss b.1 Q m).2)) (part-lt C) (parts-lt Cs)
        (λ v s t.
        let r = joined-cases Ss v t in
        let q = bests-of Cs Ss b.1 r.0 r.1 in
        a.0 q.0 q.1 v (b.0.allowed v s) (q.3 v r.2))
        (λ v s t. let r = (parts_in Cs v t).1 in a.0 r.0 r.1 v (part_in C v s).1 r.2)
        (b.0.least (bit_and R C) (part-lt C) (λ v t. (part_in C v t).1) (part-hits C)) (parts-light Cs Ss a.1 b.1)

  pub parts-least : (Cs Ss : List ℕ) → Parted E Cs → Bests c n E Cs Ss → Least c n (λ R. Unit {0}) E (joined Ss)
  parts-least Cs Ss parted b =
      record {
        fits = joined-lt n Ss (λ S m. (bests-of Cs Ss b S m).2);
        allowed = tt;
        hits = (parts-hits E Cs parted (joined Ss)).1 part-hit;
        least = λ R f u h.
            as-light-trans c n (joined Ss) (parts-of R f h Cs) R (parts-light R f h Cs Ss parted.apart b)
            (within-light c n R (parts-of R f h Cs) (λ v t. (parts_in R f h Cs v t).0));
      }
    where
      part-hit : (C : ℕ) → Of C Cs → Hits (inside E C) (joined Ss)
      part-hit C m w p =
          let r = bests-at Cs Ss b C m in
          r.2.hits w (widen (λ v t. left-within (joined Ss) r.0 v (joined-holds Ss r.0 v r.1) t) (λ u x e. e) p)
