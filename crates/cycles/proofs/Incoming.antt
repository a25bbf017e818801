-- The in-neighbours of each member inside its component, as rows that are set member by member. Assumes nothing.
use mathlib.Core.Path.{◌≡◌, refl, sym, ap, ◌∙◌, subst}
use mathlib.Core.Logic.{◌≢◌}
use mathlib.Core.Bool.{Bool, true, false, not, ◌&&◌}
use mathlib.Core.List.{List}
use Prim.Native.Nat.{ℕ, ◌<◌}
use native.Mathlib.Omega.{arith}
use native.Mathlib.Decide.{ℕ_discrete}
use borrow.Author.Tests.{eq-eqb, ne_eqb}
use lib.Dec.{T, eqb}
use lib.ListN.{length, get_or, set, length-set}
use lib.Seq.{get_or-set_same, get_or-set_other}
use Rattle.masks.specs.Sets.{bit, cut}
use Rattle.masks.specs.Walk.{IsLowestOf}
use Rattle.masks.proofs.Tests.{T_true}
use Rattle.masks.proofs.Bits.{bit-zero}
use Rattle.masks.proofs.PutCut.{cut-same, cut-other, cut-from}
use Rattle.graphs.specs.Graph.{edge}
use Rattle.graphs.specs.Components.{inside}
use Rattle.graphs.proofs.Lists.{all_alike}
use Rattle.graphs.proofs.InPlace.{zeros}

-- r has the in-neighbours of v
abbrev pub Incoming : List ℕ → ℕ → ℕ → ℕ → Type 0
Incoming rows C v r = (u : ℕ) → bit r u ≡ inside (edge rows) C u v

module _ (rows : List ℕ) (C v : ℕ) where
  own : (x y : Bool) → (x && (false && y)) ≡ false
  own true y = refl
  own false y = refl

  one : (x y : Bool) → (x && y) ≡ ((x && true) && y)
  one true y = refl
  one false y = refl

  -- those of C whose rows hold v, without v itself
  pub incoming-at : T (bit C v) → (held r : ℕ) → ((u : ℕ) → bit held u ≡ (bit C u && bit (get_or rows u 0) v)) → r ≡ cut held v → Incoming rows C v r
  unfolding edge
  incoming-at t held r h e u = ap (λ x. bit x u) e ∙ go (ℕ_discrete u v)
    where
      go : Dec (u ≡ v) → bit (cut held v) u ≡ ((bit C u && bit C v) && (not (eqb u v) && bit (get_or rows u 0) v))
      go (yes q) = rw (q, cut-same held v, eq-eqb v v refl) (sym (own (bit C v && bit C v) (bit (get_or rows v 0) v)))
      go (no k) = rw (cut-other held v u k, h u, ne_eqb u v k, T_true (bit C v) t) (one (bit C u) (bit (get_or rows u 0) v))

-- s has the members that are still to come; those that came have theirs, and the other rows are empty
pub record Setting (rows : List ℕ) (C s : ℕ) (found : List ℕ) : Type 0 where
  pub part : (v : ℕ) → T (bit s v) → T (bit C v)
  pub long : length found ≡ 64
  pub those : (v u : ℕ) → bit (get_or found v 0) u ≡ (not (bit s v) && inside (edge rows) C u v)

module _ (rows : List ℕ) (C : ℕ) where
  pub set_first : (s : ℕ) → s ≡ C → Setting rows C s (zeros 64)
  set_first s e =
      record {
        part = λ v t. subst (λ z. T (bit z v)) e t;
        long = refl;
        those = λ v u. let z : get_or (zeros 64) v 0 ≡ 0 = all_alike 0 64 v in rw (z, bit-zero u, e) (sym (none (bit C u) (bit C v) (edge rows u v)));
      }
    where
      none : (x y z : Bool) → (not y && ((x && y) && z)) ≡ false
      none x true z = refl
      none true false z = refl
      none false false z = refl

  -- a turn: v is taken from s, which leaves t
  pub set_more : (s v t held r : ℕ) (found next : List ℕ) → IsLowestOf s v t → ((u : ℕ) → bit held u ≡ (bit C u && bit (get_or rows u 0) v)) → r ≡ cut held v
      → next ≡ set found v r → Setting rows C s found → Setting rows C t next
  set_more s v t held r found next taken h q w g =
      record {
        part = λ x i. g.part x (cut-from s v x (subst (λ z. T (bit z x)) taken.rest i)).1;
        long = ap length w ∙ length-set found v r ∙ g.long;
        those = λ x u. ap (λ (l : List ℕ). bit (get_or l x 0) u) w ∙ go x u (ℕ_discrete x v);
      }
    where
      go : (x u : ℕ) → Dec (x ≡ v) → bit (get_or (set found v r) x 0) u ≡ (not (bit t x) && inside (edge rows) C u x)
      go x u (yes e) =
          let l : v < length found = omega (arith, taken.inner, g.long) in
          rw (e, get_or-set_same found v r 0 l, taken.rest, cut-same s v) (incoming-at rows C v (g.part v taken.member) held r h q u)
      go x u (no k) =
          let k' : x ≢ v = k in
          rw (get_or-set_other found v x r 0 k', taken.rest, cut-other s v x k') (g.those x u)

  pub set_all : (s : ℕ) (found : List ℕ) → s ≡ 0 → Setting rows C s found → (v u : ℕ) → bit (get_or found v 0) u ≡ inside (edge rows) C u v
  set_all s found z g v u = g.those v u ∙ ap (λ (x : Bool). not x && inside (edge rows) C u v) (ap (λ (m : ℕ). bit m v) z ∙ bit-zero v)
