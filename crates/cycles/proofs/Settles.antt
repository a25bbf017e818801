-- The variables of a set, made one after the other, and the members of B taken over from one pass into the next: what is known while some members are left.
-- Assumes nothing.
use mathlib.Core.Path.{◌≡◌, refl, sym, ap, ◌∙◌, subst}
use mathlib.Core.Logic.{◌≢◌}
use mathlib.Core.Bool.{Bool, true}
use mathlib.Core.List.{List, [], ◌∷◌, ◌++◌, map}
use Prim.Native.Nat.{ℕ, suc, ◌<◌}
use native.Mathlib.Omega.{arith}
use Rattle.std.proofs.lemmas.Bool.{false≢true}
use native.Mathlib.Decide.{ℕ_discrete, dec_lt}
use lib.Dec.{T}
use lib.ListN.{length, set, length-set}
use Rattle.std.specs.Prelude.{Result, Ok, Err, IsErr}
use Rattle.masks.specs.Sets.{bit}
use Rattle.masks.specs.Walk.{IsLowestOf}
use Rattle.masks.proofs.Tests.{T_false}
use Rattle.masks.proofs.Bits.{zero-member}
use Rattle.masks.proofs.PutCut.{cut-from, cut_keeps}
use Rattle.graphs.specs.Graph.{Of}
use Rattle.graphs.proofs.Lists.{Of-left, map-append}
use Rattle.trees.specs.Tree.{off, on, br}
use Rattle.nodes.specs.Codes.{Table}
use Rattle.nodes.specs.Promise.{Outcome}
use Rattle.nodes.specs.declared.Node.{Node}
use Rattle.nodes.specs.declared.Full.{Full}
use Rattle.cycles.specs.Passes.{each}
use Rattle.cycles.specs.Work.{code_at, Code, Added, Makes, VariablesPromise, Settling}
use Rattle.cycles.proofs.Holdings.{code_at-same, code_at-other, code-kept, code-set, code_other, added_none, added_more, lacking-in, lacking-more, makes-variable}
use Rattle.cycles.proofs.Onward.{From, from-all, from-none, from-member, from-passed, from-next}
use Rattle.cycles.proofs.Sums.{each-skip, each_more, each_next}

-- ---- the variables

abbrev var_at : ℕ → ℕ → Bool
var_at v K = bit K v

abbrev pub vars_below : ℕ → ℕ → List (ℕ → Bool)
vars_below v S = map (λ w K. bit K w) (each v (bit S))

-- s has the members that are left
pub record Varying (ws₀ : List ℕ) (S : ℕ) (ws : List ℕ) (table : List Node) (s : ℕ) : Type 0 where
  pub from : ℕ
  pub left : From S from s
  pub long : length table ≡ 64
  pub added : Added ws₀ ws (vars_below from S)
  pub shown : (w : ℕ) → w < from → T (bit S w) → Code ws (code_at table w) (λ K. bit K w)

module _ (ws₀ : List ℕ) (S : ℕ) where
  pub vary-none : (table : List Node) (s : ℕ) → Table ws₀ → length table ≡ 64 → s ≡ S → Varying ws₀ S ws₀ table s
  unfolding each
  vary-none table s t l e = record { from = 0; left = from-all e; long = l; added = added_none t; shown = λ w k. absurd (omega arith) }

  -- u is taken, which leaves t
  module _ (ws : List ℕ) (table : List Node) (s : ℕ) (p : Varying ws₀ S ws table s) (u t : ℕ) (taken : IsLowestOf s u t) (ws' : List ℕ) where
    member : T (bit S u)
    member = (from-member p.left taken).1

    so_far : Added ws₀ ws (vars_below u S)
    so_far =
        subst (λ xs. Added ws₀ ws (map (λ w K. bit K w) xs))
        (sym (each-skip (bit S) p.from u (from-member p.left taken).0 (λ w j k. T_false (bit S w) (from-passed p.left taken w j k)))) p.added

    vars-next : vars_below (suc u) S ≡ vars_below u S ++ ((λ K. bit K u) ∷ [])
    vars-next = ap (map (λ w K. bit K w)) (each_next S u member) ∙ map-append (λ w K. bit K w) (each u (bit S)) (u ∷ [])

    pub vary-step : (d : Node) (table' : List Node) → Outcome ws ws' (br u off on) (Ok d) → table' ≡ set table u d → Varying ws₀ S ws' table' t
    vary-step d table' o c =
        let m : Makes ws ws' (var_at u ∷ []) (var_at u) (Ok d) = makes-variable ws ws' u (Ok d) o in
        record {
          from = suc u;
          left = from-next p.left taken;
          long = ap length c ∙ length-set table u d ∙ p.long;
          added = subst (Added ws₀ ws') (sym vars-next) (added_more so_far m.0);
          shown = λ w k i. at w k i m.0 m.1 (ℕ_discrete w u) (dec_lt w p.from);
        }
      where
        at : (w : ℕ) → w < suc u → T (bit S w) → Added ws ws' (var_at u ∷ []) → Code ws' d.0 (var_at u) → Dec (w ≡ u) → Dec (w < p.from)
            → Code ws' (code_at table' w) (var_at w)
        at w k i a b (yes e) j =
            subst (λ z. Code ws' (code_at table' z) (var_at z)) (sym e) (code-set table table' u d (omega (arith, p.long, taken.inner)) c b)
        at w k i a b (no e) (yes j) = code_other table table' u d w e c (code-kept a.grows (p.shown w j i))
        at w k i a b (no e) (no j) =
            let e' : w ≢ u = e in
            let j' : ¬ (w < p.from) = j in
            absurd (from-passed p.left taken w (omega arith) (omega arith) i)

    pub vary-full : (f : Full) → Outcome ws ws' (br u off on) (Err f) → (r : Result (List Node) Full) → IsErr r → VariablesPromise ws₀ ws' S r
    vary-full f o (Err x) e =
        lacking-in
        (λ h m. let x = each_more (bit S) (suc u) 64 (omega (arith, taken.inner)) in
        subst (Of h) (sym (ap (map (λ w K. bit K w)) x.1 ∙ map-append (λ w K. bit K w) (each (suc u) (bit S)) x.0))
        (Of-left h (vars_below (suc u) S) (map (λ w K. bit K w) x.0) (subst (Of h) (sym vars-next) m)))
        (lacking-more so_far (makes-variable ws ws' u (Err f) o))
    vary-full f o (Ok x) e = absurd (false≢true e)

  pub vary-done : (ws : List ℕ) (table : List Node) (s : ℕ) → s ≡ 0 → Varying ws₀ S ws table s
      → VariablesPromise ws₀ ws S (Ok table)
  vary-done ws table s e p = (
    subst (λ xs. Added ws₀ ws (map (λ w K. bit K w) xs))
        (sym (each-skip (bit S) p.from 64 p.left.bounded (λ w j k. T_false (bit S w) (from-none e p.left w j)))) p.added,
    λ w i. at w i (dec_lt w p.from),
  )
    where
      at : (w : ℕ) → T (bit S w) → Dec (w < p.from) → Code ws (code_at table w) (λ K. bit K w)
      at w i (yes j) = p.shown w j i
      at w i (no j) =
          let j' : ¬ (w < p.from) = j in
          absurd (from-none e p.left w (omega arith) i)

-- ---- from one pass into the next

-- s has the members that are left: the others were taken over
pub record Taking (B : ℕ) (table₀ next table : List Node) (same : Bool) (s : ℕ) : Type 0 where
  pub long : length table ≡ 64
  pub taken : (w : ℕ) → T (bit B w) → (T (bit s w) → ⊥) → code_at table w ≡ code_at next w
  pub rest : (w : ℕ) → T (bit s w) → code_at table w ≡ code_at table₀ w
  pub stays : same ≡ true → (w : ℕ) → T (bit B w) → (T (bit s w) → ⊥) → code_at table₀ w ≡ code_at next w

module _ (B : ℕ) (table₀ next : List Node) where
  pub take_none : (s : ℕ) → length table₀ ≡ 64 → s ≡ B → Taking B table₀ next table₀ true s
  take_none s l e =
      record {
        long = l;
        taken = λ w t k. absurd (k (subst (λ m. T (bit m w)) (sym e) t));
        rest = λ w t. refl;
        stays = λ q w t k. absurd (k (subst (λ m. T (bit m w)) (sym e) t));
      }

  -- where it says that they are the same, they were so before, and the code was the same
  pub take_step : (table : List Node) (same : Bool) (s : ℕ) → Taking B table₀ next table same s → (u t : ℕ) → IsLowestOf s u t
      → (table' : List Node) (same' : Bool) (x : Node) → x.0 ≡ code_at next u → table' ≡ set table u x
      → (same' ≡ true → (same ≡ true) × (code_at table u ≡ code_at next u)) → Taking B table₀ next table' same' t
  take_step table same s p u t taken table' same' x is_next is_set f =
      record {
        long = ap length is_set ∙ length-set table u x ∙ p.long;
        taken = λ w m k. got w m k (ℕ_discrete w u);
        rest = λ w i. let q = still w i in code_at-other table table' u x w q.0 is_set ∙ p.rest w q.1;
        stays = λ q w m k. was (f q) w m k (ℕ_discrete w u);
      }
    where
      still : (w : ℕ) → T (bit t w) → (w ≢ u) × T (bit s w)
      still w i = cut-from s u w (subst (λ m. T (bit m w)) taken.rest i)

      -- one that is not left, and is not u, was not left before
      before : (w : ℕ) → w ≢ u → (T (bit t w) → ⊥) → T (bit s w) → ⊥
      before w e k i = k (subst (λ m. T (bit m w)) (sym taken.rest) (cut_keeps s u w e i))

      got : (w : ℕ) → T (bit B w) → (T (bit t w) → ⊥) → Dec (w ≡ u) → code_at table' w ≡ code_at next w
      got w m k (yes e) =
          subst (λ z. code_at table' z ≡ code_at next z) (sym e) (code_at-same table table' u x (omega (arith, p.long, taken.inner)) is_set ∙ is_next)
      got w m k (no e) = code_at-other table table' u x w e is_set ∙ p.taken w m (before w e k)

      was : (same ≡ true) × (code_at table u ≡ code_at next u) → (w : ℕ) → T (bit B w) → (T (bit t w) → ⊥) → Dec (w ≡ u)
          → code_at table₀ w ≡ code_at next w
      was g w m k (yes e) = subst (λ z. code_at table₀ z ≡ code_at next z) (sym e) (sym (p.rest u taken.member) ∙ g.1)
      was g w m k (no e) = p.stays g.0 w m (before w e k)

  pub take_done : (table : List Node) (same : Bool) (s : ℕ) → s ≡ 0 → Taking B table₀ next table same s → Settling B table₀ next table same
  take_done table same s e p = record { taken = λ w t. p.taken w t (zero-member s w e); stays = λ q w t. p.stays q w t (zero-member s w e) }
