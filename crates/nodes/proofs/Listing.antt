-- A room that holds a list of trees: it begins empty, each operation adds the tree that it was asked for, and the number of words in use is the need of
-- their functions; or the room is full, and their need exceeds its length. Assumes nothing.
use mathlib.Core.Path.{◌≡◌, refl, sym, subst, ◌∙◌}
use mathlib.Core.Logic.{inl, inr, ⊎_elim}
use mathlib.Core.Bool.{Bool}
use mathlib.Core.List.{List, [], ◌∷◌, map}
use Prim.Native.Nat.{ℕ, ◌≤◌, ◌<◌}
use native.Mathlib.Omega.{arith}
use lib.ListN.{length, get_or, replicate, length-replicate}
use Rattle.graphs.specs.Graph.{Of}
use Rattle.graphs.proofs.Lists.{Of-left, Of-right, all_alike}
use Rattle.trees.specs.Tree.{Tree, eval, subs, subs_all, once}
use Rattle.trees.specs.Need.{Need}
use Rattle.trees.proofs.Canonical.{Good}
use Rattle.trees.proofs.Needs.{Within, need-within, AllGood, subs-from, need-trees}
use Rattle.nodes.specs.Rooms.{used}
use Rattle.nodes.specs.Codes.{Stands, Grows}
use Rattle.nodes.specs.Promise.{Fresh, Built, Short, PartsOf, Room, Over}
use Rattle.nodes.proofs.Slots.{same_or}
use Rattle.nodes.proofs.Standing.{stands-grows, stands_good}
use Rattle.nodes.proofs.Counting.{full-used, used-lt, used-is, part-slot}

-- ---- rooms and lists

-- an empty room is in order, and holds nothing
pub room-none : (ws : List ℕ) → length ws ≤ 65536 → ((s : ℕ) → get_or ws s 0 ≡ 0) → Room ws []
room-none ws l z =
    record {
      table = record { small = l; fair = λ s k. absurd (k (z s)); once = λ s u k e. absurd (k (z s)); reached = λ s k. absurd (k (z s)) };
      holds = λ t h. absurd h;
      exact = λ s k. absurd (k (z s));
    }

pub room-zero : (n : ℕ) → n ≤ 65536 → Room (replicate n 0) []
room-zero n l = room-none (replicate n 0) (omega (arith, length-replicate {A = ℕ} n 0)) (all_alike 0 n)

-- every listed tree is good
pub room-good : (ws : List ℕ) (ts : List Tree) → Room ws ts → AllGood ts
room-good ws [] r = tt
room-good ws (t ∷ ts) r = (good-at t (inl refl), all ts (λ u h. good-at u (inr h)))
  where
    good-at : (u : Tree) → Of u (t ∷ ts) → Good 0 u
    good-at u h = stands_good r.table (r.holds u h).1

    all : (us : List Tree) → ((u : Tree) → Of u us → Good 0 u) → AllGood us
    all [] g = tt
    all (u ∷ us) g = (g u (inl refl), all us (λ w h. g w (inr h)))

-- ---- one operation more

-- the nodes are parts of the old trees and of the new one
parts_more : (ws ws' : List ℕ) (ts : List Tree) (t : Tree) → Grows ws ws' → Fresh ws ws' t → PartsOf ws ts → PartsOf ws' (t ∷ ts)
parts_more ws ws' ts t g f p s k =
    ⊎_elim (λ z. let x = f s z k in (x.0, Of-left x.0 (subs t) (subs_all ts) x.1, x.2))
    (λ n. let x = p s n in (x.0, Of-right x.0 (subs t) (subs_all ts) x.1, stands-grows g x.2)) (same_or (get_or ws s 0) 0)

pub room-built : {ws ws' : List ℕ} {ts : List Tree} {t : Tree} {c : ℕ} → Room ws ts → Built ws ws' t c → Room ws' (t ∷ ts)
room-built {ws} {ws'} {ts} {t} {c} r b =
    record {
      table = b.table;
      holds = λ u. ⊎_elim (λ e. (c, subst (Stands ws' c) (sym e) b.stands)) (λ h. let x = r.holds u h in (x.0, stands-grows b.grows x.1));
      exact = parts_more ws ws' ts t b.grows b.fresh r.exact;
    }

pub room-short : {ws ws' : List ℕ} {ts : List Tree} {t : Tree} → Room ws ts → Short ws ws' t → Over (length ws) (t ∷ ts)
room-short {ws} {ws'} {ts} {t} r b =
    let l : used ws' < length (once (subs_all (t ∷ ts))) =
    used-lt ws' b.table (t ∷ ts) (parts_more ws ws' ts t b.grows b.fresh r.exact) b.lacks.0
    (Of-left b.lacks.0 (subs t) (subs_all ts) b.lacks.1) b.lacks.2 in
    omega (arith, full-used ws' b.full, b.grows.size)

-- ---- the need

-- the number of words in use is the number of different parts
pub room-used : {ws : List ℕ} {ts : List Tree} → Room ws ts → used ws ≡ length (once (subs_all ts))
room-used {ws} {ts} r =
    used-is ws r.table ts r.exact
    (λ u h. let x = subs-from ts u h in part-slot (r.holds x.0 x.1).1 u x.2)

-- so it is the need of the listed functions
pub room-need : {ws : List ℕ} {ts : List Tree} → Room ws ts → Need (map eval ts) (used ws)
room-need {ws} {ts} r = rw (room-used r) (need-trees ts (room-good ws ts r))

-- the need of functions among which those of ts are exceeds n
pub over-need : (n : ℕ) (ts : List Tree) → AllGood ts → Over n ts → (L : List (ℕ → Bool)) (k : ℕ) → Within (map eval ts) L → Need L k → n < k
over-need n ts g o L k w d = omega (arith, need-within (map eval ts) L (length (once (subs_all ts))) k w (need-trees ts g) d)

-- ---- a list of functions, made one after the other

-- from the room ws the trees ts were made, the last one first, and the room is ws'
pub data Makes (ws : List ℕ) : List Tree → List ℕ → Type 0 where
  begun : Makes ws [] ws
  then-made : {ts : List Tree} {ws' ws'' : List ℕ} {t : Tree} {c : ℕ} → Makes ws ts ws' → Built ws' ws'' t c → Makes ws (t ∷ ts) ws''

pub makes-room : {n : ℕ} {ts : List Tree} {ws : List ℕ} → n ≤ 65536 → Makes (replicate n 0) ts ws → Room ws ts × (length ws ≡ n)
makes-room {n} l begun = (room-zero n l, length-replicate {A = ℕ} n 0)
makes-room l (then-made m b) =
    let r = makes-room l m in
    (room-built r.0 b, b.grows.size ∙ r.1)

-- the number of words in use is the need of that list; or, where the next one finds the room full, the need of the list with it exceeds the capacity
pub record Learnt (n : ℕ) (ts : List Tree) (ws : List ℕ) : Type 0 where
  pub need : Need (map eval ts) (used ws)
  pub more : (t : Tree) (ws' : List ℕ) → Good 0 t → Short ws ws' t → (L : List (ℕ → Bool)) (k : ℕ) → Within (map eval (t ∷ ts)) L → Need L k → n < k

pub makes-need : {n : ℕ} {ts : List Tree} {ws : List ℕ} → n ≤ 65536 → Makes (replicate n 0) ts ws → Learnt n ts ws
makes-need {n} {ts} {ws} l m =
    let r = makes-room l m in
    record {
      need = room-need r.0;
      more = λ t ws' g b L k w d. over-need n (t ∷ ts) (g, room-good ws ts r.0) (rw r.1 at (room-short r.0 b)) L k w d;
    }
