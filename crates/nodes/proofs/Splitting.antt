-- Two nodes taken apart at the lower variable: at the variable of the first, of the second, or of both. Assumes nothing.
use mathlib.Core.Path.{◌≡◌, sym, ap, ◌∙◌}
use mathlib.Core.Logic.{◌≢◌, ⊎_elim}
use mathlib.Core.List.{List}
use Prim.Native.Nat.{ℕ, suc, min, ◌≤◌, ◌<◌}
use native.Mathlib.Omega.{arith}
use lib.Dec.{eqb}
use borrow.Author.Tests.{eq-eqb, ne_eqb}
use Rattle.masks.specs.Sets.{pick}
use Rattle.trees.specs.Tree.{Tree, br}
use Rattle.nodes.specs.Packing.{variable_of, low_of, high_of}
use Rattle.nodes.specs.Codes.{word, level, Stands, is_off, is_on, is_br, Held, Table}
use Rattle.nodes.specs.Work.{Split}
use Rattle.nodes.specs.declared.joins.Parts.{Parts}
use Rattle.nodes.proofs.Slots.{lt-or-le}
use Rattle.nodes.proofs.Standing.{Sides, node-sides, level-node}
use Rattle.trees.proofs.Branches.{join-less, join-both, join_more}

-- a node, its branches and what they stand for
pub record Opened (ws : List ℕ) (c : ℕ) (t : Tree) : Type 0 where
  pub l : Tree
  pub h : Tree
  pub is : t ≡ br (variable_of (word ws c)) l h
  pub low : Stands ws (low_of (word ws c)) l
  pub high : Stands ws (high_of (word ws c)) h
  pub sides : Sides (variable_of (word ws c)) l h

pub opened : {ws : List ℕ} {c : ℕ} {t : Tree} → Table ws → 2 ≤ c → Stands ws c t → Opened ws c t
opened T p (is_off e) = absurd (omega arith)
opened T p (is_on e) = absurd (omega arith)
opened {ws} {c} T p (is_br {v = v} {l = l} {h = h} q z e sl sh) =
    record {
      l = l;
      h = h;
      is = λ i. br (sym e i) l h;
      low = sl;
      high = sh;
      sides = rw e (node-sides {c = c} T (is_br {v = v} q z e sl sh));
    }

-- a test whether two variables are the same
own : (x y l c : ℕ) → x ≡ y → pick (eqb x y) l c ≡ l
own x y l c e = ap (λ b. pick b l c) (eq-eqb x y e)

passed : (x y l c : ℕ) → x ≢ y → pick (eqb x y) l c ≡ c
passed x y l c n = ap (λ b. pick b l c) (ne_eqb x y n)

-- ---- what the codes of the parts stand for, at another name k of the lower variable

-- the branches of a node with that variable
module _ {ws : List ℕ} {c : ℕ} {t : Tree} (o : Opened ws c t) {k : ℕ} (e : k ≡ variable_of (word ws c)) where
  abbrev low_part : (a : ℕ) → a ≡ low_of (word ws c) → Held ws (suc k) a
  low_part a f = record { tree = o.l; stands = rw f o.low; ordered = rw e o.sides.low }

  abbrev high_part : (a : ℕ) → a ≡ high_of (word ws c) → Held ws (suc k) a
  high_part a f = record { tree = o.h; stands = rw f o.high; ordered = rw e o.sides.high }

-- a node of a later variable, whole
abbrev whole : {ws : List ℕ} {c : ℕ} {t : Tree} → Opened ws c t → Stands ws c t → {k : ℕ} → k < variable_of (word ws c) → (a : ℕ) → a ≡ c → Held ws (suc k) a
whole {t = t} o s l a f = record { tree = t; stands = rw f s; ordered = rw o.is (l, o.sides.low, o.sides.high) }

module _ (ws : List ℕ) (T : Table ws) (a b : ℕ) (a2 : 2 ≤ a) (b2 : 2 ≤ b) (p : Parts) (s t : Tree) (sa : Stands ws a s) (sb : Stands ws b t) where
  abbrev v : ℕ
  v = variable_of (word ws a)

  abbrev w : ℕ
  w = variable_of (word ws b)

  L : Opened ws a s
  L = opened T a2 sa

  R : Opened ws b t
  R = opened T b2 sb

  lower_of : (x : ℕ) → x ≡ min v w → x ≡ min (level ws a) (level ws b)
  lower_of x e = rw (level-node ws a a2, level-node ws b b2) e

  split-less : v < w → p.v.0 ≡ v → p.a0.0 ≡ low_of (word ws a) → p.a1.0 ≡ high_of (word ws a) → p.b0.0 ≡ b → p.b1.0 ≡ b → Split ws a b p s t
  split-less k ev e0 e1 f0 f1 =
      record {
        lower = lower_of p.v.0 (omega arith);
        a0 = low_part L ev p.a0.0 e0;
        a1 = high_part L ev p.a1.0 e1;
        b0 = whole R sb (omega arith) p.b0.0 f0;
        b1 = whole R sb (omega arith) p.b1.0 f1;
        joins = λ or. join-less or v w L.l L.h R.l R.h p.v.0 L.is R.is ev k;
      }

  split-more : w < v → p.v.0 ≡ w → p.a0.0 ≡ a → p.a1.0 ≡ a → p.b0.0 ≡ low_of (word ws b) → p.b1.0 ≡ high_of (word ws b) → Split ws a b p s t
  split-more k ev e0 e1 f0 f1 =
      record {
        lower = lower_of p.v.0 (omega arith);
        a0 = whole L sa (omega arith) p.a0.0 e0;
        a1 = whole L sa (omega arith) p.a1.0 e1;
        b0 = low_part R ev p.b0.0 f0;
        b1 = high_part R ev p.b1.0 f1;
        joins = λ or. join_more or v w L.l L.h R.l R.h p.v.0 L.is R.is ev k;
      }

  split-both : v ≡ w → p.v.0 ≡ v → p.a0.0 ≡ low_of (word ws a) → p.a1.0 ≡ high_of (word ws a) → p.b0.0 ≡ low_of (word ws b)
      → p.b1.0 ≡ high_of (word ws b) → Split ws a b p s t
  split-both k ev e0 e1 f0 f1 =
      record {
        lower = lower_of p.v.0 (omega arith);
        a0 = low_part L ev p.a0.0 e0;
        a1 = high_part L ev p.a1.0 e1;
        b0 = low_part R (ev ∙ k) p.b0.0 f0;
        b1 = high_part R (ev ∙ k) p.b1.0 f1;
        joins = λ or. join-both or v w L.l L.h R.l R.h p.v.0 L.is R.is ev k;
      }

  -- at the lower of the two variables, each node by the test whether that is its own
  pub split-at : p.v.0 ≡ min v w
      → p.a0.0 ≡ pick (eqb v p.v.0) (low_of (word ws a)) a → p.a1.0 ≡ pick (eqb v p.v.0) (high_of (word ws a)) a
      → p.b0.0 ≡ pick (eqb w p.v.0) (low_of (word ws b)) b → p.b1.0 ≡ pick (eqb w p.v.0) (high_of (word ws b)) b → Split ws a b p s t
  split-at e e0 e1 f0 f1 = ⊎_elim less (λ l. ⊎_elim more (λ m. both (omega arith)) (lt-or-le w v)) (lt-or-le v w)
    where
      less : v < w → Split ws a b p s t
      less k = split-less k (omega arith) (e0 ∙ own v _ _ _ (omega arith)) (e1 ∙ own v _ _ _ (omega arith)) (f0 ∙ passed w _ _ _ (λ q. omega arith)) (f1 ∙ passed w _ _ _ (λ q. omega arith))

      more : w < v → Split ws a b p s t
      more k = split-more k (omega arith) (e0 ∙ passed v _ _ _ (λ q. omega arith)) (e1 ∙ passed v _ _ _ (λ q. omega arith)) (f0 ∙ own w _ _ _ (omega arith)) (f1 ∙ own w _ _ _ (omega arith))

      both : v ≡ w → Split ws a b p s t
      both k = split-both k (omega arith) (e0 ∙ own v _ _ _ (omega arith)) (e1 ∙ own v _ _ _ (omega arith)) (f0 ∙ own w _ _ _ (omega arith)) (f1 ∙ own w _ _ _ (omega arith))
