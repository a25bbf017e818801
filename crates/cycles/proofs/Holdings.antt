-- Functions in the node room: what stays as the room grows, what one operation makes, and that a room that holds some functions has exactly their need in use.
-- Shown from the laws of the trees that the codes stand for. Assumes nothing.
use mathlib.Core.Path.{◌≡◌, refl, sym, ap, ap₂, ◌∙◌, subst, fun_ext}
use mathlib.Core.Logic.Iff
use mathlib.Core.Logic.{◌≢◌, inl, inr, ⊎_elim, ◌↔◌}
use mathlib.Core.Bool.{Bool, true, false}
use mathlib.Core.List.{List, [], ◌∷◌, ◌++◌, map, append_assoc, append-nil}
use Prim.Native.Nat.{ℕ, ◌≤◌, ◌<◌}
use native.Mathlib.Omega.{arith}
use lib.ListN.{length, set, replicate}
use lib.Seq.{get_or-set_same, get_or-set_other}
use Rattle.masks.specs.Sets.{bit}
use Rattle.graphs.specs.Graph.{Of}
use Rattle.graphs.proofs.Lists.{Of-left, Of-right, Of-cases}
use Rattle.trees.specs.Tree.{Tree, off, on, br, eval, join_t, op, subs_all, once}
use Rattle.trees.specs.Need.{Need}
use Rattle.trees.proofs.Canonical.{Good, good-var}
use Rattle.trees.proofs.Joins.{join_t-good, join_t-eval}
use Rattle.trees.proofs.Needs.{Within, need-trees, need-once}
use Rattle.std.specs.Prelude.{Result, Ok, Err}
use Rattle.nodes.specs.Codes.{is_off, is_on, Held, Table, Grows}
use Rattle.nodes.specs.Promise.{Outcome, Joined}
use Rattle.nodes.specs.Rooms.{used}
use Rattle.nodes.specs.declared.Node.{Node}
use Rattle.nodes.specs.declared.Full.{Full}
use Rattle.nodes.proofs.Slots.{grows_same, grows-more}
use Rattle.nodes.proofs.Standing.{stands_one, stands-grows, stands_good, held}
use Rattle.nodes.proofs.Listing.{room-zero, room-good, room-built, room-short, room-need}
use Rattle.cycles.specs.Work.{node_of, code_at, Code, Shows, Holding, Added, Beyond, Lacking, Makes}
use Rattle.cycles.proofs.PassTrees.{var-eval}

-- ---- codes

pub code-kept : {ws ws' : List ℕ} {c : ℕ} {f : ℕ → Bool} → Grows ws ws' → Code ws c f → Code ws' c f
code-kept g p = record { tree = p.tree; stands = stands-grows g p.stands; is = p.is }

pub shows_kept : {ws ws' : List ℕ} (table : List Node) (S : ℕ) {g : ℕ → ℕ → Bool} → Grows ws ws' → Shows ws table S g → Shows ws' table S g
shows_kept table S k s v t = code-kept k (s v t)

-- a code stands for one function
pub code_one : {ws : List ℕ} {c : ℕ} {f g : ℕ → Bool} → Code ws c f → Code ws c g → f ≡ g
code_one p q = sym p.is ∙ ap eval (stands_one p.stands q.stands) ∙ q.is

pub code_off : (ws : List ℕ) → Code ws 0 (λ K. false)
code_off ws = record { tree = off; stands = is_off refl; is = refl }

pub code-on : (ws : List ℕ) → Code ws 1 (λ K. true)
code-on ws = record { tree = on; stands = is_on refl; is = refl }

-- a table with one code set: at its place, and at any other
pub code_at-same : (table table' : List Node) (v : ℕ) (d : Node) → v < length table → table' ≡ set table v d → code_at table' v ≡ d.0
code_at-same table table' v d l e = ap (λ xs. code_at xs v) e ∙ ap (λ (x : Node). x.0) (get_or-set_same table v d (node_of 0) l)

pub code_at-other : (table table' : List Node) (v : ℕ) (d : Node) (u : ℕ) → u ≢ v → table' ≡ set table v d → code_at table' u ≡ code_at table u
code_at-other table table' v d u k e = ap (λ xs. code_at xs u) e ∙ ap (λ (x : Node). x.0) (get_or-set_other table v u d (node_of 0) k)

pub code-set : {ws : List ℕ} (table table' : List Node) (v : ℕ) (d : Node) {f : ℕ → Bool} → v < length table → table' ≡ set table v d → Code ws d.0 f
    → Code ws (code_at table' v) f
code-set {ws} table table' v d {f} l e p = subst (λ x. Code ws x f) (sym (code_at-same table table' v d l e)) p

pub code_other : {ws : List ℕ} (table table' : List Node) (v : ℕ) (d : Node) (u : ℕ) {f : ℕ → Bool} → u ≢ v → table' ≡ set table v d
    → Code ws (code_at table u) f → Code ws (code_at table' u) f
code_other {ws} table table' v d u {f} k e p = subst (λ x. Code ws x f) (sym (code_at-other table table' v d u k e)) p

-- in a room in order a code of a function may be joined
pub code-held : {ws : List ℕ} {c : ℕ} {f : ℕ → Bool} → Table ws → Code ws c f → Held ws 0 c
code-held t p = held t p.stands

-- ---- what a room holds

pub holding-none : (n : ℕ) → n ≤ 65536 → Holding (replicate n 0) []
holding-none n l = record { trees = []; room = room-zero n l; are = λ f. ((λ m. m), λ m. m) }

-- the order of the functions does not matter
pub holding-same : {ws : List ℕ} {L L' : List (ℕ → Bool)} → ((f : ℕ → Bool) → Of f L ↔ Of f L') → Holding ws L → Holding ws L'
holding-same e h = record { trees = h.trees; room = h.room; are = λ f. Iff.trans (h.are f) (e f) }

-- exactly the need is in use
pub holding-need : {ws : List ℕ} {L : List (ℕ → Bool)} → Holding ws L → Need L (used ws)
holding-need {ws} {L} h = (need-once (map eval h.trees) L h.are (used ws)).0 (room-need h.room)

-- ---- what was added

-- the same functions, after those of L
after_same : {A : Type 0} (L a b : List A) → ((f : A) → Of f a ↔ Of f b) → (f : A) → Of f (L ++ a) ↔ Of f (L ++ b)
after_same L a b e f = (
  (λ m. ⊎_elim (λ k. Of-left f L b k) (λ k. Of-right f L b ((e f).0 k)) (Of-cases f L a m)),
  λ m. ⊎_elim (λ k. Of-left f L a k) (λ k. Of-right f L a ((e f).1 k)) (Of-cases f L b m),
)

pub added_none : {ws : List ℕ} → Table ws → Added ws ws []
added_none {ws} t = record { table = t; grows = grows_same ws; holds = λ L h. rw append-nil h }

pub added-same : {ws ws' : List ℕ} {a b : List (ℕ → Bool)} → ((f : ℕ → Bool) → Of f a ↔ Of f b) → Added ws ws' a → Added ws ws' b
added-same {ws} {ws'} {a} {b} e p =
    record { table = p.table; grows = p.grows; holds = λ L h. holding-same (after_same L a b e) (p.holds L h) }

pub added_more : {ws ws' ws'' : List ℕ} {a b : List (ℕ → Bool)} → Added ws ws' a → Added ws' ws'' b → Added ws ws'' (a ++ b)
added_more {ws} {ws'} {ws''} {a} {b} p q =
    record {
      table = q.table;
      grows = grows-more p.grows q.grows;
      holds = λ L h. subst (Holding ws'') (append_assoc L a b) (q.holds (L ++ a) (p.holds L h));
    }

-- ---- what is lacking

pub beyond-in : {m : ℕ} {L L' : List (ℕ → Bool)} → Within L L' → Beyond m L → Beyond m L'
beyond-in w b = record { part = b.part; within = λ f m. w f (b.within f m); count = b.count; need = b.need; more = b.more }

pub lacking-in : {ws ws' : List ℕ} {a b : List (ℕ → Bool)} → Within a b → Lacking ws ws' a → Lacking ws ws' b
lacking-in {ws} {ws'} {a} {b} w p = record { size = p.size; beyond = λ L h. beyond-in (wider L) (p.beyond L h) }
  where
    wider : (L : List (ℕ → Bool)) → Within (L ++ a) (L ++ b)
    wider L f m = ⊎_elim (λ k. Of-left f L b k) (λ k. Of-right f L b (w f k)) (Of-cases f L a m)

pub lacking-more : {ws ws' ws'' : List ℕ} {a b : List (ℕ → Bool)} → Added ws ws' a → Lacking ws' ws'' b → Lacking ws ws'' (a ++ b)
lacking-more {ws} {ws'} {ws''} {a} {b} p q =
    record {
      size = q.size ∙ p.grows.size;
      beyond = λ L h.
          subst (λ n. Beyond n (L ++ (a ++ b))) p.grows.size
          (subst (Beyond (length ws')) (append_assoc L a b) (q.beyond (L ++ a) (p.holds L h)));
    }

-- ---- one operation

module _ (t : Tree) (f : ℕ → Bool) (g : Good 0 t) (e : eval t ≡ f) where
  -- one more, at the end
  last_one : (L M : List (ℕ → Bool)) → ((h : ℕ → Bool) → Of h M ↔ Of h L) → (h : ℕ → Bool) → Of h (eval t ∷ M) ↔ Of h (L ++ (f ∷ []))
  last_one L M s h = (
    ⊎_elim (λ q. Of-right h L (f ∷ []) (inl (q ∙ e))) (λ m. Of-left h L (f ∷ []) ((s h).0 m)),
    λ m. ⊎_elim (λ k. inr ((s h).1 k)) (⊎_elim (λ q. inl (q ∙ sym e)) (λ k. absurd k)) (Of-cases h L (f ∷ []) m),
  )

  pub makes_one : (ws ws' : List ℕ) (r : Result Node Full) → Outcome ws ws' t r → Makes ws ws' (f ∷ []) f r
  makes_one ws ws' (Ok c) o = (
    record {
      table = o.table;
      grows = o.grows;
      holds = λ L h.
          record { trees = t ∷ h.trees; room = room-built h.room o; are = last_one L (map eval h.trees) h.are };
    },
    record { tree = t; stands = o.stands; is = e },
  )
  makes_one ws ws' (Err x) o =
      record {
        size = o.grows.size;
        beyond = λ L h.
            record {
              part = eval t ∷ map eval h.trees;
              within = λ k m. (last_one L (map eval h.trees) h.are k).0 m;
              count = length (once (subs_all (t ∷ h.trees)));
              need = need-trees (t ∷ h.trees) (g, room-good ws h.trees h.room);
              more = room-short h.room o;
            };
      }

-- the variable of v
pub makes-variable : (ws ws' : List ℕ) (v : ℕ) (r : Result Node Full) → Outcome ws ws' (br v off on) r → Makes ws ws' ((λ K. bit K v) ∷ []) (λ K. bit K v) r
makes-variable ws ws' v = makes_one (br v off on) (λ K. bit K v) (good-var 0 v (omega arith)) (var-eval v) ws ws'

-- the OR or the AND of two
pub makes-join : (or : Bool) (ws ws' ms' : List ℕ) (a b : ℕ) (f g : ℕ → Bool) (r : Result Node Full) → Table ws → Code ws a f → Code ws b g → Joined or ws ws' ms' a b r
    → Makes ws ws' ((λ K. op or (f K) (g K)) ∷ []) (λ K. op or (f K) (g K)) r
makes-join or ws ws' ms' a b f g r t p q j =
    makes_one (join_t or p.tree q.tree) (λ K. op or (f K) (g K))
    (join_t-good or p.tree q.tree 0 (stands_good t p.stands) (stands_good t q.stands))
    (fun_ext (λ K. join_t-eval or p.tree q.tree K ∙ ap₂ (op or) (ap (λ h. h K) p.is) (ap (λ h. h K) q.is)))
    ws ws' r (j.outcome p.tree q.tree p.stands q.stands)
