-- Those of a set whose rows hold v, gathered member by member; and the edges of a member inside its component. Assumes nothing.
use mathlib.Core.Path.{◌≡◌, refl, sym, ap, ◌∙◌, subst}
use mathlib.Core.Logic.{◌↔◌, ◌≢◌}
use mathlib.Core.Bool.{Bool, true, false, not, ◌&&◌, and-false, and_comm}
use mathlib.Core.List.{List}
use Prim.Native.Nat.{ℕ}
use native.Mathlib.Decide.{ℕ_discrete}
use lib.Bits.{bit_and}
use lib.Dec.{T, eqb}
use lib.ListN.{get_or}
use borrow.Author.Tests.{eq-eqb, ne_eqb}
use Rattle.masks.specs.Sets.{bit, put, cut}
use Rattle.masks.specs.Walk.{IsLowestOf}
use Rattle.masks.proofs.Tests.{T_and, and_T, T_true}
use Rattle.masks.proofs.Bits.{bit-zero, bit-and}
use Rattle.masks.proofs.PutCut.{put_same, put_other, cut-same, cut-other, cut-from}
use Rattle.graphs.specs.Graph.{edge, Walk}
use Rattle.graphs.specs.Components.{every, inside}
use Rattle.graphs.specs.Work.{Reaching, Around}

-- ---- those of a set whose rows hold v

abbrev pub holds : List ℕ → ℕ → ℕ → ℕ → Bool
holds rows among v u = bit among u && bit (get_or rows u 0) v

-- s has the members that are still to come; of those that came, the ones that pass were gathered
pub record Gathering (rows : List ℕ) (among v s found : ℕ) : Type 0 where
  pub part : (w : ℕ) → T (bit s w) → T (bit among w)
  pub those : (w : ℕ) → bit found w ≡ (not (bit s w) && holds rows among v w)

module _ (rows : List ℕ) (among v : ℕ) where
  pub gather_none : (s found : ℕ) → s ≡ among → found ≡ 0 → Gathering rows among v s found
  gather_none s found e z = record { part = λ w t. subst (λ x. T (bit x w)) e t; those = λ w. rw (e, z, bit-zero w) (go (bit among w) (bit (get_or rows w 0) v)) }
    where
      go : (x y : Bool) → false ≡ (not x && (x && y))
      go true y = refl
      go false y = refl

  -- a turn: u is taken from s, which leaves t
  module _ (s u t found next row : ℕ) (is_row : row ≡ get_or rows u 0) (taken : IsLowestOf s u t) (g : Gathering rows among v s found) where
    part_of : (w : ℕ) → T (bit t w) → T (bit among w)
    part_of w i = g.part w (cut-from s u w (subst (λ x. T (bit x w)) taken.rest i)).1

    here : (x : Bool) → bit row v ≡ x → holds rows among v u ≡ x
    here x e = rw (T_true (bit among u) (g.part u taken.member), ← is_row) e

    -- at any other flip-flop nothing changes
    other : (w : ℕ) → w ≢ u → bit found w ≡ (not (bit t w) && holds rows among v w)
    other w k = g.those w ∙ ap (λ (x : Bool). not x && holds rows among v w) (sym (ap (λ (m : ℕ). bit m w) taken.rest ∙ cut-other s u w k))

    gone : bit t u ≡ false
    gone = ap (λ (m : ℕ). bit m u) taken.rest ∙ cut-same s u

    pub gather-yes : bit row v ≡ true → next ≡ put found u → Gathering rows among v t next
    gather-yes e q = record { part = part_of; those = λ w. ap (λ (m : ℕ). bit m w) q ∙ go w (ℕ_discrete w u) }
      where
        go : (w : ℕ) → Dec (w ≡ u) → bit (put found u) w ≡ (not (bit t w) && holds rows among v w)
        go w (yes d) = rw (d, put_same found u, gone, here true e) refl
        go w (no k) = put_other found u w k ∙ other w k

    pub gather-no : bit row v ≡ false → next ≡ found → Gathering rows among v t next
    gather-no e q = record { part = part_of; those = λ w. ap (λ (m : ℕ). bit m w) q ∙ go w (ℕ_discrete w u) }
      where
        go : (w : ℕ) → Dec (w ≡ u) → bit found w ≡ (not (bit t w) && holds rows among v w)
        go w (yes d) =
            let b : bit found u ≡ false = g.those u ∙ ap (λ (x : Bool). not x && holds rows among v u) (T_true (bit s u) taken.member) in
            rw (d, b, gone, here false e) refl
        go w (no k) = other w k

  pub gather-all : (s found : ℕ) → s ≡ 0 → Gathering rows among v s found → (w : ℕ) → bit found w ≡ holds rows among v w
  gather-all s found z g w = g.those w ∙ ap (λ (x : Bool). not x && holds rows among v w) (ap (λ (m : ℕ). bit m w) z ∙ bit-zero w)

-- ---- the edges of a member inside its component

pub inner-bits : (rows : List ℕ) (C v : ℕ) → T (bit C v) → (row met r : ℕ) → row ≡ get_or rows v 0 → met ≡ bit_and row C → r ≡ cut met v
    → (w : ℕ) → bit r w ≡ inside (edge rows) C v w
unfolding edge
inner-bits rows C v t row met r is_row is_met is_r w = ap (λ x. bit x w) is_r ∙ go (ℕ_discrete w v)
  where
    go : Dec (w ≡ v) → bit (cut met v) w ≡ ((bit C v && bit C w) && (not (eqb v w) && bit (get_or rows v 0) w))
    go (yes q) = rw (q, cut-same met v, eq-eqb v v refl) (sym (and-false (bit C v && bit C v)))
    go (no k) =
        rw (cut-other met v w k, is_met, bit-and row C w, is_row, ne_eqb v w (λ z. k (sym z)), T_true (bit C v) t) (and_comm (bit (get_or rows v 0) w) (bit C w))

-- ---- those that v reaches and is reached by

pub around-bits : (reached : List ℕ) (v row C : ℕ) → row ≡ get_or reached v 0 → ((u : ℕ) → bit C u ≡ (bit row u && bit (get_or reached u 0) v))
    → (E : ℕ → ℕ → Bool) → Reaching E reached → Around E v C
around-bits reached v row C is_row h E right w =
    subst (λ b. T b ↔ (Walk E every v w × Walk E every w v)) (sym (h w ∙ ap (λ r. bit r w && bit (get_or reached w 0) v) is_row)) (
      (λ t. let r = T_and (bit (get_or reached v 0) w) (bit (get_or reached w 0) v) t in ((right v w).0 r.0, (right w v).0 r.1)),
      λ p. and_T (bit (get_or reached v 0) w) (bit (get_or reached w 0) v) ((right v w).1 p.0) ((right w v).1 p.1),
    )
