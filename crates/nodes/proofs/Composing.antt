-- Two operations for the sides of a tree and `make` for the tree itself, one after the other, are one operation for the tree: what is new is a part of it,
-- and where the room was full, a part of it stands nowhere. Assumes nothing.
use mathlib.Core.Path.{◌≡◌}
use mathlib.Core.Logic.{⊎_elim}
use mathlib.Core.List.{List}
use Prim.Native.Nat.{ℕ}
use lib.ListN.{get_or}
use Rattle.graphs.specs.Graph.{Of}
use Rattle.trees.specs.Tree.{Tree, mk, subs}
use Rattle.nodes.specs.Codes.{Table, Grows}
use Rattle.nodes.specs.Promise.{Fresh, Built, Short, Outcome}
use Rattle.std.specs.Prelude.{Result, Ok, Err}
use Rattle.nodes.specs.declared.Node.{Node}
use Rattle.nodes.specs.declared.Full.{Full}
use Rattle.nodes.proofs.Slots.{same_or, grows-more}
use Rattle.nodes.proofs.Standing.{stands-grows}
use Rattle.trees.proofs.Branches.{part_low, part-high}

pub outcome-table : (ws ws' : List ℕ) (t : Tree) (r : Result Node Full) → Outcome ws ws' t r → Table ws'
outcome-table ws ws' t (Ok c) o = o.table
outcome-table ws ws' t (Err f) o = o.table

pub outcome-grows : (ws ws' : List ℕ) (t : Tree) (r : Result Node Full) → Outcome ws ws' t r → Grows ws ws'
outcome-grows ws ws' t (Ok c) o = o.grows
outcome-grows ws ws' t (Err f) o = o.grows

-- the parts of one tree are parts of the other
abbrev pub Part : Tree → Tree → Type 0
Part s t = (u : Tree) → Of u (subs s) → Of u (subs t)

pub fresh-part : (ws ws' : List ℕ) (s t : Tree) → Part s t → Fresh ws ws' s → Fresh ws ws' t
fresh-part ws ws' s t p f i z k =
    let x = f i z k in
    (x.0, p x.0 x.1, x.2)

pub fresh-more : (ws ws₁ ws₂ : List ℕ) (t : Tree) → Grows ws₁ ws₂ → Fresh ws ws₁ t → Fresh ws₁ ws₂ t → Fresh ws ws₂ t
fresh-more ws ws₁ ws₂ t g f₁ f₂ s z k =
    ⊎_elim (λ e. f₂ s e k) (λ n. let x = f₁ s z n in (x.0, x.1, stands-grows g x.2)) (same_or (get_or ws₁ s 0) 0)

module _ (v : ℕ) (l h t : Tree) (e : t ≡ mk v l h) where
  low_part : Part l t
  low_part u p = rw e (part_low v l h u p)

  high_part : Part h t
  high_part u p = rw e (part-high v l h u p)

  self-part : Part (mk v l h) t
  self-part u p = rw e p

  -- the first operation found the room full
  pub short-low : {ws ws₁ : List ℕ} → Short ws ws₁ l → Short ws ws₁ t
  short-low {ws} {ws₁} o =
      record {
        table = o.table;
        grows = o.grows;
        fresh = fresh-part ws ws₁ l t low_part o.fresh;
        full = o.full;
        lacks = (o.lacks.0, low_part o.lacks.0 o.lacks.1, o.lacks.2);
      }

  module _ {ws ws₁ : List ℕ} {lo : ℕ} (a : Built ws ws₁ l lo) where
    -- the second did
    pub short-high : {ws₂ : List ℕ} → Short ws₁ ws₂ h → Short ws ws₂ t
    short-high {ws₂} o =
        record {
          table = o.table;
          grows = grows-more a.grows o.grows;
          fresh =
              fresh-more ws ws₁ ws₂ t o.grows (fresh-part ws ws₁ l t low_part a.fresh) (fresh-part ws₁ ws₂ h t high_part o.fresh);
          full = o.full;
          lacks = (o.lacks.0, high_part o.lacks.0 o.lacks.1, o.lacks.2);
        }

    module _ {ws₂ : List ℕ} {hi : ℕ} (b : Built ws₁ ws₂ h hi) where
      grows_all : {ws₃ : List ℕ} → Grows ws₂ ws₃ → Grows ws ws₃
      grows_all g = grows-more a.grows (grows-more b.grows g)

      fresh-all : (ws₃ : List ℕ) → Grows ws₂ ws₃ → Fresh ws₂ ws₃ (mk v l h) → Fresh ws ws₃ t
      fresh-all ws₃ g f =
          fresh-more ws ws₂ ws₃ t g
          (fresh-more ws ws₁ ws₂ t b.grows (fresh-part ws ws₁ l t low_part a.fresh) (fresh-part ws₁ ws₂ h t high_part b.fresh))
          (fresh-part ws₂ ws₃ (mk v l h) t self-part f)

      -- `make` was called
      pub outcome-made : (ws₃ : List ℕ) (r : Result Node Full) → Outcome ws₂ ws₃ (mk v l h) r → Outcome ws ws₃ t r
      outcome-made ws₃ (Ok c) o =
          record { table = o.table; grows = grows_all o.grows; fresh = fresh-all ws₃ o.grows o.fresh; stands = rw e o.stands }
      outcome-made ws₃ (Err f) o =
          record { table = o.table; grows = grows_all o.grows; fresh = fresh-all ws₃ o.grows o.fresh; full = o.full; lacks = rw e o.lacks }
