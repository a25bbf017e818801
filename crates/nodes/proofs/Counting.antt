-- The slots in use, counted: they stand for different trees, so that there are no more of them than different parts of the trees that they are parts of;
-- and as many, where all these parts stand in the room. Assumes nothing.
use mathlib.Core.Path.{◌≡◌, refl, sym, ap, subst, ◌∙◌}
use mathlib.Core.Logic.{inl, inr, ⊎_elim}
use mathlib.Core.List.{List, [], ◌∷◌, map}
use Prim.Native.Nat.{ℕ, zero, suc, ◌+◌, ◌-◌, ◌≤◌, ◌<◌}
use native.Mathlib.Omega.{arith}
use native.Mathlib.Decide.{ℕ_discrete}
use lib.ListN.{length, get_or, length-map}
use Rattle.graphs.specs.Graph.{Of, Differ}
use Rattle.graphs.proofs.Lists.{differ-le, differ-map, Of-map, Of-from, Of-cases}
use Rattle.trees.specs.Tree.{Tree, off, br, subs, subs_all, once}
use Rattle.trees.proofs.Needs.{once-of, once-differ}
use Rattle.nodes.specs.Rooms.{used}
use Rattle.nodes.specs.Codes.{Taken, Stands, is_off, is_on, is_br, Filled, Table}
use Rattle.nodes.specs.Promise.{PartsOf}
use Rattle.nodes.proofs.Standing.{stands_one, stands-code}

-- ---- the slots in use

-- where i is the number of the first slot
slots : ℕ → List ℕ → List ℕ
slots i [] = []
slots i (zero ∷ ws) = slots (suc i) ws
slots i (suc w ∷ ws) = i ∷ slots (suc i) ws

slots_length : (i : ℕ) (ws : List ℕ) → length (slots i ws) ≡ used ws
unfolding slots used
slots_length i [] = refl
slots_length i (zero ∷ ws) = slots_length (suc i) ws
slots_length i (suc w ∷ ws) = ap suc (slots_length (suc i) ws)

slots-from : (i : ℕ) (ws : List ℕ) (s : ℕ) → Of s (slots i ws) → (i ≤ s) × Taken ws (s - i)
unfolding slots
slots-from i [] s h = absurd h
slots-from i (zero ∷ ws) s h = later (slots-from (suc i) ws s h)
  where
    later : (suc i ≤ s) × Taken ws (s - suc i) → (i ≤ s) × Taken (zero ∷ ws) (s - i)
    later r =
        let e : s - i ≡ suc (s - suc i) = omega (arith, r.0) in
        (omega (arith, r.0), rw e r.1)
slots-from i (suc w ∷ ws) s (inl e) =
    let z : s - i ≡ 0 = omega arith in
    (omega arith, rw z (λ k. omega arith))
slots-from i (suc w ∷ ws) s (inr h) = later (slots-from (suc i) ws s h)
  where
    later : (suc i ≤ s) × Taken ws (s - suc i) → (i ≤ s) × Taken (suc w ∷ ws) (s - i)
    later r =
        let e : s - i ≡ suc (s - suc i) = omega (arith, r.0) in
        (omega (arith, r.0), rw e r.1)

slots-all : (i : ℕ) (ws : List ℕ) (s : ℕ) → Taken ws s → Of (i + s) (slots i ws)
unfolding slots
slots-all i [] s k = absurd (k refl)
slots-all i (zero ∷ ws) zero k = absurd (k refl)
slots-all i (zero ∷ ws) (suc s) k =
    let e : i + suc s ≡ suc i + s = omega arith in
    rw e (slots-all (suc i) ws s k)
slots-all i (suc w ∷ ws) zero k = inl (omega arith)
slots-all i (suc w ∷ ws) (suc s) k =
    let e : i + suc s ≡ suc i + s = omega arith in
    subst (λ z. Of z (slots i (suc w ∷ ws))) (sym e) (inr (slots-all (suc i) ws s k))

slots-differ : (i : ℕ) (ws : List ℕ) → Differ (slots i ws)
unfolding slots
slots-differ i [] = tt
slots-differ i (zero ∷ ws) = slots-differ (suc i) ws
slots-differ i (suc w ∷ ws) = ((λ h. omega (arith, (slots-from (suc i) ws i h).0)), slots-differ (suc i) ws)

-- a full room has no other slots
pub full-used : (ws : List ℕ) → Filled ws 0 (length ws) → used ws ≡ length ws
unfolding used
full-used [] f = refl
full-used (zero ∷ ws) f = absurd (f 0 (omega arith) (omega arith) refl)
full-used (suc w ∷ ws) f = ap suc (full-used ws (λ j p q. f (suc j) (omega arith) (omega arith)))

pub used-within : (ws : List ℕ) → used ws ≤ length ws
unfolding used
used-within [] = omega arith
used-within (zero ∷ ws) = omega (arith, used-within ws)
used-within (suc w ∷ ws) = omega (arith, used-within ws)

-- ---- their trees

taken? : (ws : List ℕ) (s : ℕ) → Dec (Taken ws s)
taken? ws s = go (ℕ_discrete (get_or ws s 0) 0)
  where
    go : Dec (get_or ws s 0 ≡ 0) → Dec (Taken ws s)
    go (yes e) = no (λ k. k e)
    go (no k) = yes k

module _ (ws : List ℕ) (T : Table ws) (ts : List Tree) (P : PartsOf ws ts) where
  -- of a slot that is not in use, any
  tree_if : (s : ℕ) → Dec (Taken ws s) → Tree
  tree_if s (yes k) = (P s k).0
  tree_if s (no k) = off

  tree_at : ℕ → Tree
  tree_at s = tree_if s (taken? ws s)

  trees : List Tree
  trees = map tree_at (slots 0 ws)

  at_slot : (s : ℕ) → Taken ws s → Stands ws (s + 2) (tree_at s) × Of (tree_at s) (subs_all ts)
  unfolding tree_at tree_if
  at_slot s k = go (taken? ws s)
    where
      go : (d : Dec (Taken ws s)) → Stands ws (s + 2) (tree_if s d) × Of (tree_if s d) (subs_all ts)
      go (yes j) = ((P s j).2, (P s j).1)
      go (no j) = absurd (j k)

  in_use : (s : ℕ) → Of s (slots 0 ws) → Taken ws s
  in_use s h =
      let e : s - 0 ≡ s = omega arith in
      rw e at (slots-from 0 ws s h).1

  trees-length : length trees ≡ used ws
  unfolding trees
  trees-length = length-map (slots 0 ws) tree_at ∙ slots_length 0 ws

  trees-differ : Differ trees
  unfolding trees
  trees-differ = differ-map tree_at (slots 0 ws) inj (slots-differ 0 ws)
    where
      inj : (x y : ℕ) → Of x (slots 0 ws) → Of y (slots 0 ws) → tree_at x ≡ tree_at y → x ≡ y
      inj x y p q e =
          let c : x + 2 ≡ y + 2 = stands-code T (at_slot x (in_use x p)).0 (rw e (at_slot y (in_use y q)).0) in
          omega arith

  -- each is a part of a listed tree
  trees-parts : (u : Tree) → Of u trees → Of u (once (subs_all ts))
  unfolding trees
  trees-parts u h =
      let r = Of-from tree_at u (slots 0 ws) h in
      (once-of u (subs_all ts)).1 (rw r.2 (at_slot r.0 (in_use r.0 r.1)).1)

  -- and stands in the room
  trees-stand : (u : Tree) → Of u trees → (c : ℕ) × Stands ws c u
  unfolding trees
  trees-stand u h =
      let r = Of-from tree_at u (slots 0 ws) h in
      (r.0 + 2, subst (Stands ws (r.0 + 2)) (sym r.2) (at_slot r.0 (in_use r.0 r.1)).0)

  -- what stands at a slot is one of them
  trees-all : (s : ℕ) (u : Tree) → Taken ws s → Stands ws (s + 2) u → Of u trees
  unfolding trees
  trees-all s u k st =
      let e : 0 + s ≡ s = omega arith in
      rw (stands_one st (at_slot s k).0) (Of-map tree_at s (slots 0 ws) (rw e at (slots-all 0 ws s k)))

  -- ---- so they are counted

  pub used_le : used ws ≤ length (once (subs_all ts))
  used_le = omega (arith, differ-le trees (once (subs_all ts)) trees-differ trees-parts, trees-length)

  -- one part more, which stands nowhere
  pub used-lt : (u : Tree) → Of u (subs_all ts) → ((c : ℕ) → Stands ws c u → ⊥) → used ws < length (once (subs_all ts))
  used-lt u p k =
      let l : suc (length trees) ≤ length (once (subs_all ts)) =
      differ-le (u ∷ trees) (once (subs_all ts)) ((λ h. let r = trees-stand u h in k r.0 r.1), trees-differ)
      (λ x. ⊎_elim (λ e. (once-of x (subs_all ts)).1 (subst (λ y. Of y (subs_all ts)) (sym e) p)) (trees-parts x)) in
      omega (arith, trees-length)

  -- all parts, where each stands in the room
  pub used-is : ((u : Tree) → Of u (subs_all ts) → (s : ℕ) × Taken ws s × Stands ws (s + 2) u) → used ws ≡ length (once (subs_all ts))
  used-is f =
      let l : length (once (subs_all ts)) ≤ length trees =
      differ-le (once (subs_all ts)) trees (once-differ (subs_all ts))
      (λ u h. let r = f u ((once-of u (subs_all ts)).0 h) in trees-all r.0 u r.1 r.2) in
      omega (arith, trees-length, used_le)

-- ---- the parts of a tree that stands in the room stand there too

pub part-slot : {ws : List ℕ} {c : ℕ} {t : Tree} → Stands ws c t → (u : Tree) → Of u (subs t) → (s : ℕ) × Taken ws s × Stands ws (s + 2) u
part-slot (is_off e) u h = absurd h
part-slot (is_on e) u h = absurd h
part-slot {ws} {c} (is_br {v = v} {l = l} {h = h} p z e sl sh) u (inl k) =
    let b : Stands ws c (br v l h) = is_br p z e sl sh in
    let i : c ≡ c - 2 + 2 = omega arith in
    (c - 2, z, rw k (rw i at b))
part-slot (is_br {l = l} {h = h} p z e sl sh) u (inr k) = ⊎_elim (part-slot sl u) (part-slot sh u) (Of-cases u (subs l) (subs h) k)
