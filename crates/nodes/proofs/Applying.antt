-- A join of two nodes: what its two calls and `make` ask, that fewer variables remain for the calls, and what they give together. Assumes nothing.
use mathlib.Core.Path.{◌≡◌, refl, sym, subst}
use mathlib.Core.Bool.{Bool, false≢true}
use mathlib.Core.List.{List}
use Prim.Native.Nat.{ℕ, suc, ◌-◌, ◌^◌, ◌≤◌, ◌<◌}
use native.Mathlib.Omega.{arith}
use lib.ListN.{replicate}
use Rattle.trees.specs.Tree.{Tree, mk, join_t}
use Rattle.trees.proofs.Canonical.{ordered-down, Good}
use Rattle.trees.proofs.Joins.{join_t-good}
use Rattle.nodes.specs.Codes.{variables, level, Stands, Held, Table, Grows}
use Rattle.nodes.specs.Promise.{Built, Outcome, Makeable, MakePromise, noted, Entry, Memo, Joinable, Joined}
use Rattle.nodes.specs.Work.{remaining, Remembered, Split, Splits}
use Rattle.std.specs.Prelude.{Result, Ok, Err, IsErr}
use Rattle.nodes.specs.declared.Node.{Node}
use Rattle.nodes.specs.declared.Full.{Full}
use Rattle.nodes.specs.declared.joins.Parts.{Parts}
use Rattle.nodes.proofs.Standing.{stands-grows, held-grows, stands-small, stands-taken, stands-reduced, level-node, level-above}
use Rattle.nodes.proofs.Making.{kept}
use Rattle.nodes.proofs.Composing.{outcome-grows, short-low, short-high, outcome-made}
use Rattle.nodes.proofs.Remembering.{memo-zero, memo-grows, memo-set}

pub held_down : {ws : List ℕ} {k c : ℕ} → Held ws k c → Held ws 0 c
held_down h = record { tree = h.tree; stands = h.stands; ordered = ordered-down h.tree _ 0 (omega arith) h.ordered }

-- the join of two held trees, at the code that stands for it
held-join : {ws : List ℕ} {k a b c : ℕ} (or : Bool) → Table ws → (h : Held ws k a) (i : Held ws k b) → Stands ws c (join_t or h.tree i.tree) → Held ws k c
held-join {k = k} or T h i s =
    let g : Good k h.tree = record { ordered = h.ordered; reduced = stands-reduced T h.stands } in
    let g' : Good k i.tree = record { ordered = i.ordered; reduced = stands-reduced T i.stands } in
    record { tree = join_t or h.tree i.tree; stands = s; ordered = (join_t-good or h.tree i.tree k g g').ordered }

-- what is known where a join has taken its two nodes apart
pub record Cut (ws ms : List ℕ) (a b : ℕ) (p : Parts) : Type 0 where
  pub able : Joinable ws ms a b
  pub a2 : 2 ≤ a
  pub splits : Splits ws a b p

module _ {ws ms : List ℕ} {a b : ℕ} {p : Parts} (x : Cut ws ms a b p) where
  -- at the trees that are known to be there
  S : Split ws a b p x.able.left.tree x.able.right.tree
  S = x.splits x.able.left.tree x.able.right.tree x.able.left.stands x.able.right.stands

  pub v-small : p.v.0 < variables
  v-small =
      let f : level ws a ≡ _ = level-node ws a x.a2 in
      omega (arith, S.lower, f, (x.able.table.fair (a - 2) (stands-taken x.a2 x.able.left.stands)).variable)

  -- fewer variables remain
  pub falls : {ws' : List ℕ} {c d : ℕ} → Held ws' (suc p.v.0) c → Held ws' (suc p.v.0) d → remaining ws' c d < remaining ws a b
  falls {ws'} {c} {d} h i =
      let l : suc p.v.0 ≤ level ws' c = level-above v-small h.stands h.ordered in
      let k : suc p.v.0 ≤ level ws' d = level-above v-small i.stands i.ordered in
      omega (arith, S.lower, v-small)

  pub able-low : Joinable ws ms p.a0.0 p.b0.0
  able-low = record { table = x.able.table; memo = x.able.memo; left = held_down S.a0; right = held_down S.b0 }

  pub falls-low : remaining ws p.a0.0 p.b0.0 < remaining ws a b
  falls-low = falls S.a0 S.b0

  -- the first call found the room full
  pub full-low : {or : Bool} {ws₁ ms₁ : List ℕ} {f : Full} → Joined or ws ws₁ ms₁ p.a0.0 p.b0.0 (Err f) → Joined or ws ws₁ ms₁ a b (Err f)
  full-low {or} j =
      record {
        outcome = λ s t sa sb. let k = x.splits s t sa sb in short-low p.v.0 _ _ _ (k.joins or) (j.outcome k.a0.tree k.b0.tree k.a0.stands k.b0.stands);
        memo = j.memo;
      }

  module _ {or : Bool} {ws₁ ms₁ : List ℕ} {lo : Node} (j₁ : Joined or ws ws₁ ms₁ p.a0.0 p.b0.0 (Ok lo)) where
    -- what the first call gives for the sides of two trees
    built₁ : {s t : Tree} → (k : Split ws a b p s t) → Built ws ws₁ (join_t or k.a0.tree k.b0.tree) lo.0
    built₁ k = j₁.outcome k.a0.tree k.b0.tree k.a0.stands k.b0.stands

    abbrev a1-held : Held ws₁ (suc p.v.0) p.a1.0
    a1-held = held-grows (built₁ S).grows S.a1

    abbrev b1-held : Held ws₁ (suc p.v.0) p.b1.0
    b1-held = held-grows (built₁ S).grows S.b1

    pub able-high : Joinable ws₁ ms₁ p.a1.0 p.b1.0
    able-high = record { table = (built₁ S).table; memo = j₁.memo; left = held_down a1-held; right = held_down b1-held }

    pub falls-high : remaining ws₁ p.a1.0 p.b1.0 < remaining ws a b
    falls-high = falls a1-held b1-held

    high-outcome : {ws₂ ms₂ : List ℕ} {r : Result Node Full} {s t : Tree} → Joined or ws₁ ws₂ ms₂ p.a1.0 p.b1.0 r → (k : Split ws a b p s t)
        → Outcome ws₁ ws₂ (join_t or k.a1.tree k.b1.tree) r
    high-outcome j k =
        let g : Grows ws ws₁ = (built₁ k).grows in
        j.outcome k.a1.tree k.b1.tree (stands-grows g k.a1.stands) (stands-grows g k.b1.stands)

    pub full-high : {ws₂ ms₂ : List ℕ} {f : Full} → Joined or ws₁ ws₂ ms₂ p.a1.0 p.b1.0 (Err f) → Joined or ws ws₂ ms₂ a b (Err f)
    full-high j =
        record {
          outcome = λ s t sa sb. let k = x.splits s t sa sb in short-high p.v.0 _ _ _ (k.joins or) (built₁ k) (high-outcome j k);
          memo = j.memo;
        }

    module _ {ws₂ ms₂ : List ℕ} {hi : Node} (j₂ : Joined or ws₁ ws₂ ms₂ p.a1.0 p.b1.0 (Ok hi)) where
      built₂ : {s t : Tree} → (k : Split ws a b p s t) → Built ws₁ ws₂ (join_t or k.a1.tree k.b1.tree) hi.0
      built₂ k = high-outcome j₂ k

      lo-stands : {s t : Tree} → (k : Split ws a b p s t) → Stands ws₂ lo.0 (join_t or k.a0.tree k.b0.tree)
      lo-stands k = stands-grows (built₂ k).grows (built₁ k).stands

      pub makeable : Makeable ws₂ p.v.0 lo.0 hi.0
      makeable =
          let g : Grows ws₁ ws₂ = (built₂ S).grows in
          let g' : Grows ws ws₁ = (built₁ S).grows in
          record {
            table = (built₂ S).table;
            variable = v-small;
            low = held-join or (built₂ S).table (held-grows g (held-grows g' S.a0)) (held-grows g (held-grows g' S.b0)) (lo-stands S);
            high = held-join or (built₂ S).table (held-grows g a1-held) (held-grows g b1-held) (built₂ S).stands;
          }

      module _ (ws₃ : List ℕ) (r₃ : Result Node Full) (m : MakePromise ws₂ ws₃ p.v.0 lo.0 hi.0 r₃) where
        made : {s t : Tree} → (k : Split ws a b p s t)
            → Outcome ws₂ ws₃ (mk p.v.0 (join_t or k.a0.tree k.b0.tree) (join_t or k.a1.tree k.b1.tree)) r₃
        made k = m (join_t or k.a0.tree k.b0.tree) (join_t or k.a1.tree k.b1.tree) (lo-stands k) (built₂ k).stands

        pub memo-made : Memo ws₃ ms₂
        memo-made = memo-grows ms₂ (outcome-grows ws₂ ws₃ _ r₃ (made S)) j₂.memo

        -- where `make` found the room full, this is all
        pub joined-made : Joined or ws ws₃ ms₂ a b r₃
        joined-made =
            record {
              outcome = λ s t sa sb. let k = x.splits s t sa sb in outcome-made p.v.0 _ _ _ (k.joins or) (built₁ k) (built₂ k) ws₃ r₃ (made k);
              memo = memo-made;
            }

      module _ (ws₃ : List ℕ) (c : Node) (m : MakePromise ws₂ ws₃ p.v.0 lo.0 hi.0 (Ok c)) where
        here : Built ws ws₃ (join_t or x.able.left.tree x.able.right.tree) c.0
        here = (joined-made ws₃ (Ok c) m).outcome x.able.left.tree x.able.right.tree x.able.left.stands x.able.right.stands

        pub c-small : c.0 < 2 ^ 17
        c-small = stands-small here.table.small here.stands

        pub entry : Entry ws₃ (noted or a b c.0)
        entry =
            record {
              or = or;
              a = a;
              b = b;
              r = c.0;
              is = refl;
              s = x.able.left.tree;
              t = x.able.right.tree;
              left = stands-grows here.grows x.able.left.stands;
              right = stands-grows here.grows x.able.right.stands;
              joins = here.stands;
            }

        pub done : (ms₃ : List ℕ) → Remembered ms₂ ms₃ or a b c.0 → Joined or ws ws₃ ms₃ a b (Ok c)
        done ms₃ q =
            record {
              outcome = (joined-made ws₃ (Ok c) m).outcome;
              memo = subst (Memo ws₃) (sym q.1) (memo-set ws₃ ms₂ q.0 (noted or a b c.0) (memo-made ws₃ (Ok c) m) entry);
            }

-- `?` hands on that the room is full
pub joined-err : {ws ws' ms' : List ℕ} {a b : ℕ} {or : Bool} {f : Full} (r : Result Node Full) → IsErr r → Joined or ws ws' ms' a b (Err f) → Joined or ws ws' ms' a b r
joined-err (Ok c) e j = absurd (false≢true e)
joined-err (Err g) e j = record { outcome = j.outcome; memo = j.memo }

-- another name of the same memo
pub joined-as : {ws ws' ms ms' : List ℕ} {a b : ℕ} {or : Bool} {r : Result Node Full} → ms' ≡ ms → Joined or ws ws' ms a b r → Joined or ws ws' ms' a b r
joined-as {ws' = ws'} e j = record { outcome = j.outcome; memo = subst (Memo ws') (sym e) j.memo }

pub remembered-as : (ms ms' ms₃ : List ℕ) (or : Bool) (a b r : ℕ) → ms ≡ ms' → Remembered ms ms₃ or a b r → Remembered ms' ms₃ or a b r
remembered-as ms ms' ms₃ or a b r e q = subst (λ z. Remembered z ms₃ or a b r) e q

-- a join that was known
pub known_joined : {ws ms : List ℕ} {a b : ℕ} (or : Bool) (c : Node) → Joinable ws ms a b
    → ((s t : Tree) → Stands ws a s → Stands ws b t → Stands ws c.0 (join_t or s t)) → Joined or ws ws ms a b (Ok c)
known_joined or c x k = record { outcome = λ s t sa sb. kept x.table (k s t sa sb); memo = x.memo }

-- ---- a join with another memo

pub able-zero : {ws ms : List ℕ} {a b : ℕ} (n : ℕ) → Joinable ws ms a b → Joinable ws (replicate n 0) a b
able-zero {ws} n x = record { table = x.table; memo = memo-zero ws n; left = x.left; right = x.right }

-- the memo that was not used stays right
pub joined-beside : {ws ms ws' ms' : List ℕ} {a b : ℕ} {or : Bool} {r : Result Node Full} → Joinable ws ms a b → Joined or ws ws' ms' a b r → Joined or ws ws' ms a b r
joined-beside {ws} {ms} {ws'} {r = r} x j =
    record {
      outcome = j.outcome;
      memo = memo-grows ms (outcome-grows ws ws' _ r (j.outcome x.left.tree x.right.tree x.left.stands x.right.stands)) x.memo;
    }
