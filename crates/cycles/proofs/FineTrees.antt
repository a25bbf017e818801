-- The trees of the passes are ordered and reduced, and their variables are flip-flops below n. Shown from the same of the joins, list by list. Assumes
-- nothing.
use mathlib.Core.Path.{refl}
use mathlib.Core.Logic.{inl, inr}
use mathlib.Core.Bool.{Bool, true, false}
use mathlib.Core.List.{List, [], ◌∷◌, ◌++◌, map}
use Prim.Native.Nat.{ℕ, zero, suc, ◌<◌}
use native.Mathlib.Omega.{arith}
use lib.ListN.{set, replicate}
use Rattle.masks.specs.Sets.{bit, pick}
use Rattle.graphs.specs.Graph.{Of}
use Rattle.trees.specs.Tree.{Tree, off, on, br, join_t}
use Rattle.trees.specs.Best.{Under}
use Rattle.trees.proofs.Canonical.{Good, good-off, good-on, good-var}
use Rattle.trees.proofs.Joins.{join_t-good, join_t-under}
use Rattle.trees.proofs.Needs.{AllGood}
use Rattle.cycles.specs.Passes.{each, joined}
use Rattle.cycles.proofs.Each.{each_from}
use Rattle.cycles.proofs.PassTrees.{look, table, ors_after_t, ors_t, or_from, Run, handed_t, product_t, fill, at_flop_t, one_pass, run, listed_t, result_t}

pub record Fine (n : ℕ) (t : Tree) : Type 0 where
  pub good : Good 0 t
  pub under : Under n t

-- all of a list
abbrev pub AllFine : ℕ → List Tree → Type 0
AllFine n [] = Unit {0}
AllFine n (t ∷ ts) = Fine n t × AllFine n ts

-- all trees of a run
pub record RunFine (n : ℕ) (r : Run) : Type 0 where
  pub made : AllFine n r.made
  pub now : AllFine n r.now

module _ (n : ℕ) where
  pub fine-off : Fine n off
  fine-off = record { good = good-off 0; under = tt }

  pub fine-on : Fine n on
  fine-on = record { good = good-on 0; under = tt }

  pub fine-var : (v : ℕ) → v < n → Fine n (br v off on)
  fine-var v l = record { good = good-var 0 v (omega arith); under = (l, tt, tt) }

  pub fine-join : (z : Bool) {s t : Tree} → Fine n s → Fine n t → Fine n (join_t z s t)
  fine-join z {s} {t} a b = record { good = join_t-good z s t 0 a.good b.good; under = join_t-under n z s t a.under b.under }

  pub fine-pick : (z : Bool) {s t : Tree} → Fine n s → Fine n t → Fine n (pick z s t)
  fine-pick true a b = a
  fine-pick false a b = b

  pub fine-good : (ts : List Tree) → AllFine n ts → AllGood ts
  fine-good [] f = tt
  fine-good (t ∷ ts) f = (f.0.good, fine-good ts f.1)

  pub fine-append : (ss ts : List Tree) → AllFine n ss → AllFine n ts → AllFine n (ss ++ ts)
  fine-append [] ts f g = g
  fine-append (s ∷ ss) ts f g = (f.0, fine-append ss ts f.1 g)

  pub fine-map : (f : ℕ → Tree) (us : List ℕ) → ((u : ℕ) → Of u us → Fine n (f u)) → AllFine n (map f us)
  fine-map f [] h = tt
  fine-map f (u ∷ us) h = (h u (inl refl), fine-map f us (λ w m. h w (inr m)))

  pub fine-joined : (f : ℕ → List Tree) (us : List ℕ) → ((u : ℕ) → Of u us → AllFine n (f u)) → AllFine n (joined (map f us))
  fine-joined f [] h = tt
  fine-joined f (u ∷ us) h = fine-append (f u) (joined (map f us)) (h u (inl refl)) (fine-joined f us (λ w m. h w (inr m)))

  pub fine-or_from : {t : Tree} (ts : List Tree) → Fine n t → AllFine n ts → Fine n (or_from t ts)
  unfolding or_from
  fine-or_from {t = t} [] f g = f
  fine-or_from {t = t} (s ∷ ss) f g = fine-or_from {t = join_t true t s} ss (fine-join true f g.0) g.1

  pub fine-ors_after : {t : Tree} (ts : List Tree) → Fine n t → AllFine n ts → AllFine n (ors_after_t t ts)
  unfolding ors_after_t
  fine-ors_after {t = t} [] f g = tt
  fine-ors_after {t = t} (s ∷ ss) f g = (fine-join true f g.0, fine-ors_after {t = join_t true t s} ss (fine-join true f g.0) g.1)

  pub fine-ors : (ts : List Tree) → AllFine n ts → AllFine n (ors_t ts)
  unfolding ors_t
  fine-ors [] f = tt
  fine-ors (t ∷ ts) f = (f.0, fine-ors_after ts f.0 f.1)

  pub fine-look : (ts : List Tree) → AllFine n ts → (v : ℕ) → Fine n (look ts v)
  fine-look [] f v = fine-off
  fine-look (t ∷ ts) f zero = f.0
  fine-look (t ∷ ts) f (suc v) = fine-look ts f.1 v

  pub fine-set : {t : Tree} (ts : List Tree) (v : ℕ) → AllFine n ts → Fine n t → AllFine n (set ts v t)
  fine-set [] v f g = tt
  fine-set (s ∷ ss) zero f g = (g, f.1)
  fine-set (s ∷ ss) (suc v) f g = (f.0, fine-set ss v f.1 g)

  pub fine-table : (m : ℕ) (f : ℕ → Tree) → ((v : ℕ) → Fine n (f v)) → AllFine n (table m f)
  unfolding table
  fine-table zero f h = tt
  fine-table (suc m) f h = fine-append (table m f) (f m ∷ []) (fine-table m f h) (h m, tt)

  pub fine-replicate : (m : ℕ) → AllFine n (replicate m off)
  fine-replicate zero = tt
  fine-replicate (suc m) = (fine-off, fine-replicate m)

  module _ (E : ℕ → ℕ → Bool) (B C : ℕ) where
    pub handed-fine : (last now : List Tree) → AllFine n last → AllFine n now → (us : List ℕ) → AllFine n (map (handed_t E n B C last now) us)
    handed-fine last now f g us = fine-map (handed_t E n B C last now) us (λ u m. fine-pick (bit B u) (fine-look last f u) (fine-look now g u))

    pub product-fine : (last now : List Tree) → AllFine n last → AllFine n now → (v : ℕ) → v < n → Fine n (product_t E n B C last now v)
    unfolding product_t
    product-fine last now f g v l =
        fine-join false (fine-var v l)
        (fine-or_from (map (handed_t E n B C last now) (each n (λ u. E u v))) fine-off (handed-fine last now f g (each n (λ u. E u v))))

    pub fill-fine : (last : List Tree) → AllFine n last → (xs : List ℕ) → ((v : ℕ) → Of v xs → v < n) → AllFine n (fill E n B C last xs)
    unfolding fill
    fill-fine last f [] below = fine-replicate n
    fill-fine last f (v ∷ vs) below =
        let g : AllFine n (fill E n B C last vs) = fill-fine last f vs (λ w m. below w (inr m)) in
        fine-set (fill E n B C last vs) v g (product-fine last (fill E n B C last vs) f g v (below v (inl refl)))

    pub at-fine : (last now : List Tree) → AllFine n last → AllFine n now → (v : ℕ) → AllFine n (at_flop_t E n B C last now v)
    unfolding at_flop_t
    at-fine last now f g v =
        fine-append (ors_t (map (handed_t E n B C last now) (each n (λ u. E u v)))) (look now v ∷ [])
        (fine-ors (map (handed_t E n B C last now) (each n (λ u. E u v))) (handed-fine last now f g (each n (λ u. E u v)))) (fine-look now g v, tt)

    pub run-fine : (xs : List ℕ) → ((v : ℕ) → Of v xs → v < n) → (k : ℕ) → RunFine n (run E n B C xs k)
    unfolding run
    run-fine xs below zero = record { made = tt; now = fine-table n (λ v. pick (bit B v) on off) (λ v. fine-pick (bit B v) fine-on fine-off) }
    run-fine xs below (suc i) = go (run-fine xs below i)
      where
        r : Run
        r = run E n B C xs i

        go : RunFine n r → RunFine n (one_pass E n B C xs r)
        go h =
            let g : AllFine n (fill E n B C r.now xs) = fill-fine r.now h.now xs below in
            record {
              made =
                  fine-append r.made (joined (map (at_flop_t E n B C r.now (fill E n B C r.now xs)) (each n (bit C)))) h.made
                  (fine-joined (at_flop_t E n B C r.now (fill E n B C r.now xs)) (each n (bit C))
                  (λ v m. at-fine r.now (fill E n B C r.now xs) h.now g v));
              now = g;
            }

  -- of the listed functions and the result
  module _ (B C : ℕ) where
    pub look-fine : (r : Run) → RunFine n r → (vs : List ℕ) → AllFine n (map (look r.now) vs)
    look-fine r f vs = fine-map (look r.now) vs (λ v m. fine-look r.now f.now v)

    pub listed-fine : (r : Run) → RunFine n r → AllFine n (listed_t n B C r)
    unfolding listed_t
    listed-fine r f =
        fine-append (map (λ v. br v off on) (each n (bit C)) ++ r.made) (ors_t (map (look r.now) (each n (bit B))))
        (fine-append (map (λ v. br v off on) (each n (bit C))) r.made
        (fine-map (λ v. br v off on) (each n (bit C)) (λ v m. fine-var v (each_from n (bit C) v m).0)) f.made)
        (fine-ors (map (look r.now) (each n (bit B))) (look-fine r f (each n (bit B))))

    pub result-fine : (r : Run) → RunFine n r → Fine n (result_t n B r)
    unfolding result_t
    result-fine r f = fine-or_from (map (look r.now) (each n (bit B))) fine-off (look-fine r f (each n (bit B)))
