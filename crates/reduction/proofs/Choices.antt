-- The next move by the name of its rule: the first rule whose lowest flip-flop is one of the block's, and what a fold may count on. Assumes nothing.
use mathlib.Core.Path.{◌≡◌, refl, sym, ap, ◌∙◌, subst}
use mathlib.Core.Logic.{◌≢◌, ⊎_elim}
use mathlib.Core.List.{List, [], ◌∷◌}
use mathlib.Core.Option.{Option as Maybe, none}
use Rattle.std.proofs.Common.{Option, Some}
use Prim.Native.Nat.{ℕ, ◌+◌, ◌<◌}
use native.Mathlib.Omega.{arith}
use borrow.Author.Tests.{lt-ltb}
use lib.Count.{ones}
use lib.Dec.{T, eqb, eqb→eq}
use lib.ListN.{length, get_or, drop}
use Rattle.std.proofs.lemmas.List.{drop_more}
use Rattle.masks.specs.Sets.{bit, cut, lowest}
use Rattle.masks.specs.Walk.{IsLowestIn}
use Rattle.masks.proofs.Tests.{T_and}
use Rattle.masks.proofs.Lowest.{lowest-cases}
use Rattle.masks.proofs.Counts.{one-member}
use Rattle.masks.specs.declared.Vertex.{Vertex}
use Rattle.reduction.specs.declared.Done.TheVariants.{Folded}
use Rattle.reduction.specs.declared.rules.Rule.{Rule}
use Rattle.reduction.specs.declared.rules.Rule.TheVariants.{Looped, Loose, OneIn, OneOut}
use Rattle.reduction.specs.Rules.{State, outs, ins, beats, fold_in, fold_out, Move, wherever, next}
use Rattle.reduction.specs.Work.{Beside, block, edges, one_cheaper, asks, applies, move_by, Foldable, Usable, Chooses, FoldedInto, Performed}
use Rattle.reduction.proofs.Next.{beats-cheaper}
use Rattle.reduction.proofs.Trials.{one-unwrapped}
use Rattle.reduction.proofs.Sides.{ins-fit, ins-is}

module _ (c : ℕ → ℕ) (s : State) where
  -- the move of a rule, or what comes otherwise
  abbrev by : Rule → Maybe Move → Maybe Move
  by rule otherwise = wherever s (applies rule c s) (move_by rule s) otherwise

  fold-from : (side v : ℕ) → T (one_cheaper c (length s.rows) side v) → Foldable (length s.rows) side v
  fold-from side v t =
      let u = lowest (length s.rows) (bit side) in
      let p = T_and (eqb (ones side) 1) (beats c u v) t in
      record {
        one = eqb→eq (ones side) 1 p.0;
        other = λ e. ⊎_elim (λ k. absurd (omega (arith, k, ap c e))) (λ k. omega (arith, k.1, e)) (beats-cheaper c u v p.1);
      }

  usable : (rule : Rule) (v : ℕ) → T (asks rule c (length s.rows) (outs s v) (ins s v) v) → Usable rule s.rows v
  usable Looped v t = tt
  usable Loose v t = tt
  usable OneIn v t = fold-from (ins s v) v t
  usable OneOut v t = fold-from (outs s v) v t

  -- of the rules tried in this order, the first that applies anywhere
  abbrev pub by_first : List Rule → Maybe Move
  by_first [] = none
  by_first (rule ∷ rules) = by rule (by_first rules)

  pub next-first : next c s ≡ by_first (Looped ∷ Loose ∷ OneIn ∷ OneOut ∷ [])
  unfolding next
  next-first = refl

  -- a rule that applies, where none before it did, is the next move's
  tried : (rule : Rule) (rules : List Rule) (v : ℕ) → next c s ≡ by_first (rule ∷ rules) → v < length s.rows → v ≡ lowest (length s.rows) (applies rule c s)
      → Chooses c s rule v
  tried rule rules v h l e =
      record {
        within = l;
        usable = usable rule v (T_and (bit s.live v) (asks rule c (length s.rows) (outs s v) (ins s v) v) here).1;
        moves = h ∙ rw (← e, lt-ltb v (length s.rows) l);
      }
    where
      here : T (applies rule c s v)
      here =
          ⊎_elim (λ r. subst (λ x. T (applies rule c s x)) (sym e) r.1) (λ r. absurd (omega (arith, r.0, l, e)))
          (lowest-cases (length s.rows) (applies rule c s))

  pub tried-at : (rules : List Rule) (i : ℕ) (d : Rule) (v : ℕ) → i < length rules → next c s ≡ by_first (drop i rules)
      → (v < length s.rows) × (v ≡ lowest (length s.rows) (applies (get_or rules i d) c s)) → Chooses c s (get_or rules i d) v
  tried-at rules i d v k h f = tried (get_or rules i d) (drop (i + 1) rules) v (h ∙ ap by_first (drop_more rules i d k)) f.0 f.1

-- ---- the neighbour that v is folded into

pub record Ready (these : List ℕ) (u v : ℕ) : Type 0 where
  pub within : u < length these
  pub other : u ≢ v
  pub only : (a : ℕ) → T (bit (get_or these a 0) v) → a ≡ u

module _ (these others : List ℕ) (b : Beside these others) (v m : ℕ) (u : Vertex) (f : Foldable (length these) (get_or others v 0) v)
    (row : m ≡ get_or others v 0) (r : Option Vertex) (first : IsLowestIn m r) (found : r ≡ Some u) where
  pub found-is : u.0 ≡ lowest (length these) (bit (get_or others v 0))
  found-is = one-unwrapped (length these) (get_or others v 0) (ins-fit these others b v) f.one r u (subst (λ x. IsLowestIn x r) row first) found

  pub ready : Ready these u.0 v
  ready =
      let r = one-member (length these) (get_or others v 0) (ins-fit these others b v) f.one in
      record {
        within = subst (λ x. x < length these) (sym found-is) r.0;
        other = λ e. f.other (sym found-is ∙ e);
        only = λ a t. r.1.only a (subst T (sym (b.mirrored a v)) t) ∙ sym found-is;
      }

-- ---- rules 3 and 4 by one law, the second with the sides exchanged

module _ (s : State) (ins' : List ℕ) (b : Beside s.rows ins') (v : ℕ) where
  pub foldable-in : Usable OneIn s.rows v → Foldable (length s.rows) (get_or ins' v 0) v
  foldable-in f = subst (λ m. Foldable (length s.rows) m v) (sym (ins-is s.rows ins' b v)) f

  pub foldable-out : Usable OneOut s.rows v → Foldable (length ins') (get_or s.rows v 0) v
  foldable-out f = subst (λ n. Foldable n (get_or s.rows v 0) v) (sym b.even) f

  module _ (live forced u : ℕ) (outs'' ins'' : List ℕ) (cuts : live ≡ cut s.live v) (keeps : forced ≡ s.forced) where
    pub folds-in : FoldedInto s.rows ins' v u outs'' ins'' → Performed OneIn s v (Folded (record { 0 = u })) (block live forced outs'')
    folds-in j =
        let e = j.into ∙ ap (λ m. lowest (length s.rows) (bit m)) (ins-is s.rows ins' b v) in
        record {
          done = ap (λ x. Folded (record { 0 = x })) e;
          live = cuts;
          forced = keeps;
          rows = j.gains ∙ ap (λ x. (fold_in x v (edges s.rows)).rows) e;
        }

    pub folds-out : FoldedInto ins' s.rows v u ins'' outs'' → Performed OneOut s v (Folded (record { 0 = u })) (block live forced outs'')
    folds-out j =
        let e = j.into ∙ ap (λ n. lowest n (bit (get_or s.rows v 0))) b.even in
        record {
          done = ap (λ x. Folded (record { 0 = x })) e;
          live = cuts;
          forced = keeps;
          rows = j.leads ∙ ap (λ x. (fold_out x v (edges s.rows)).rows) e;
        }
