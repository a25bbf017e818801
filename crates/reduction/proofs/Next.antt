-- One step: which rule was used on which flip-flop, with what facts; that it removes one live flip-flop and keeps what always holds; and what holds where no
-- rule applies. Assumes nothing.
use mathlib.Core.Path.{◌≡◌, refl, sym, ap, ◌∙◌, subst}
use mathlib.Core.Logic.{◌≢◌, ◌⊎◌, inl, inr, ⊎_elim}
use mathlib.Core.Bool.{Bool, not, ◌&&◌, ◌||◌}
use mathlib.Core.Option.{Option, none, some}
use Prim.Native.Nat.{ℕ, suc, ◌<◌, ◌^◌}
use native.Mathlib.Omega.{arith}
use native.Mathlib.Decide.{ℕ_discrete}
use lib.Count.{ones}
use lib.Dec.{T, eqb, ltb, eqb→eq, ltb→lt}
use lib.ListN.{length}
use borrow.Author.Tests.{lt-ltb, le-ltb, eq-eqb, ne_eqb}
use Rattle.masks.specs.Sets.{bit, cut, lowest}
use Rattle.masks.proofs.Tests.{and_T, T_and, T-or, T_false}
use Rattle.masks.proofs.Those.{those-lt, those-in}
use Rattle.graphs.specs.Graph.{edge}
use Rattle.graphs.proofs.Walks.{flip}
use Rattle.graphs.proofs.Loops.{row_from}
use Rattle.reduction.specs.declared.Done.TheVariants.{Forced, Dropped, Folded}
use Rattle.reduction.specs.Rules.{State, outs, ins, sole, beats, applies1, applies2, applies3, applies4, remove, force, fold_in, fold_out}
use Rattle.reduction.specs.Rules.{Move, recorded, wherever, next}
use Rattle.masks.proofs.Bits.{zero-member, bit-lt}
use Rattle.masks.proofs.Lowest.{lowest-cases}
use Rattle.masks.proofs.Counts.{ones_cut, Sole, one-member}
use Rattle.reduction.proofs.Folding.{OneIn, Cheaper}
use Rattle.reduction.proofs.States.{arcs, Sane, live-lt, remove-sane, force-sane, fold_in-sane, fold_out-sane}

-- ---- the search for a flip-flop that a rule applies to

-- the rule applies to no flip-flop
abbrev Nowhere : State → (ℕ → Bool) → Type 0
Nowhere s applies = (w : ℕ) → w < length s.rows → T (applies w) → ⊥

-- a flip-flop that the rule applies to and the move is made on, or none, and a later rule's move
abbrev Found : State → (ℕ → Bool) → (ℕ → Move) → Option Move → Type 0
Found s applies move otherwise =
    ((v : ℕ) × T (applies v) × (wherever s applies move otherwise ≡ some (move v)))
    ⊎ (Nowhere s applies × (wherever s applies move otherwise ≡ otherwise))

wherever-cases : (s : State) (applies : ℕ → Bool) (move : ℕ → Move) (otherwise : Option Move) → Found s applies move otherwise
wherever-cases s applies move otherwise = go (lowest-cases (length s.rows) applies)
  where
    n : ℕ
    n = length s.rows

    v : ℕ
    v = lowest n applies

    go : ((v < n) × T (applies v)) ⊎ ((v ≡ n) × Nowhere s applies) → Found s applies move otherwise
    go (inl r) = inl (v, r.1, rw (lt-ltb v n r.0))
    go (inr r) = inr (r.1, rw (le-ltb v n (omega (arith, r.0))))

-- ---- the moves

abbrev pub move1 : ℕ → State → Move
move1 v s = record { after = force v s; step = recorded v Forced }

abbrev pub move2 : ℕ → State → Move
move2 v s = record { after = remove v s; step = recorded v Dropped }

abbrev pub move3 : ℕ → ℕ → State → Move
move3 u v s = record { after = fold_in u v s; step = recorded v (Folded (record { 0 = u })) }

abbrev pub move4 : ℕ → ℕ → State → Move
move4 u v s = record { after = fold_out u v s; step = recorded v (Folded (record { 0 = u })) }

-- by which rule a move is made, and on which flip-flop v
pub data Used (c : ℕ → ℕ) (s : State) (m : Move) : Type 0 where
  by1 : (v : ℕ) → T (bit s.live v) → T (arcs s v v) → m ≡ move1 v s → Used c s m
  by2-in : (v : ℕ) → T (bit s.live v) → ((a : ℕ) → T (arcs s a v) → ⊥) → m ≡ move2 v s → Used c s m
  by2-out : (v : ℕ) → T (bit s.live v) → ((a : ℕ) → T (arcs s v a) → ⊥) → m ≡ move2 v s → Used c s m
  by3 : (u v : ℕ) → T (bit s.live u) → T (bit s.live v) → OneIn (arcs s) u v → Cheaper c u v → m ≡ move3 u v s → Used c s m
  by4 : (u v : ℕ) → T (bit s.live u) → T (bit s.live v) → OneIn (flip (arcs s)) u v → Cheaper c u v → m ≡ move4 u v s → Used c s m

-- no rule applies to any flip-flop
pub record Settled (c : ℕ → ℕ) (s : State) : Type 0 where
  pub not1 : (v : ℕ) → T (applies1 s v) → ⊥
  pub not2 : (v : ℕ) → T (applies2 s v) → ⊥
  pub not3 : (v : ℕ) → T (applies3 c s v) → ⊥
  pub not4 : (v : ℕ) → T (applies4 c s v) → ⊥

-- ---- what the tests of the rules say

pub beats-cheaper : (c : ℕ → ℕ) (u v : ℕ) → T (beats c u v) → Cheaper c u v
beats-cheaper c u v t = ⊎_elim (λ l. inl (ltb→lt (c u) (c v) l)) same (T-or (ltb (c u) (c v)) (eqb (c u) (c v) && ltb u v) t)
  where
    same : T (eqb (c u) (c v) && ltb u v) → Cheaper c u v
    same e =
        let p = T_and (eqb (c u) (c v)) (ltb u v) e in
        inr (eqb→eq (c u) (c v) p.0, ltb→lt u v p.1)

-- the in-neighbours, as a set
pub ins-lt : (s : State) (v : ℕ) → ins s v < 2 ^ length s.rows
ins-lt s v = those-lt (length s.rows) (λ a. arcs s a v)

pub ins-in : (s : State) (u v : ℕ) → T (arcs s u v) → T (bit (ins s v) u)
ins-in s u v t = subst T (sym (those-in (length s.rows) (λ a. arcs s a v) u (row_from s.rows u v t))) t

pub ins-out : (s : State) (u v : ℕ) → T (bit (ins s v) u) → T (arcs s u v)
ins-out s u v t = subst T (those-in (length s.rows) (λ a. arcs s a v) u (bit-lt (length s.rows) (ins s v) u (ins-lt s v) t)) t

module _ (c : ℕ → ℕ) (n : ℕ) (s : State) (h : Sane n s) where
  outs-lt : (v : ℕ) → outs s v < 2 ^ length s.rows
  outs-lt v = rw h.many (h.fit v)

  used1 : (v : ℕ) → T (applies1 s v) → Used c s (move1 v s)
  used1 v t =
      let p = T_and (bit s.live v) (bit (outs s v) v) t in
      by1 v p.0 p.1 refl

  used2 : (v : ℕ) → T (applies2 s v) → Used c s (move2 v s)
  used2 v t =
      let p = T_and (bit s.live v) (eqb (ins s v) 0 || eqb (outs s v) 0) t in
      ⊎_elim
      (λ e. by2-in v p.0 (λ a k. zero-member (ins s v) a (eqb→eq (ins s v) 0 e) (ins-in s a v k)) refl)
      (λ e. by2-out v p.0 (λ a k. zero-member (outs s v) a (eqb→eq (outs s v) 0 e) k) refl)
      (T-or (eqb (ins s v) 0) (eqb (outs s v) 0) p.1)

  -- of a set m of neighbours of v, the test of rules 3 and 4
  one-test : (m v : ℕ) → m < 2 ^ length s.rows → T (bit s.live v && (eqb (ones m) 1 && beats c (sole s m) v))
      → T (bit s.live v) × Sole m (sole s m) × Cheaper c (sole s m) v
  one-test m v l t =
      let p = T_and (bit s.live v) (eqb (ones m) 1 && beats c (sole s m) v) t in
      let q = T_and (eqb (ones m) 1) (beats c (sole s m) v) p.1 in
      (p.0, (one-member (length s.rows) m l (eqb→eq (ones m) 1 q.0)).1, beats-cheaper c (sole s m) v q.1)

  module _ (not1 : Nowhere s (applies1 s)) where
    unlooped : (u v : ℕ) → T (bit s.live v) → (u ≡ v → T (arcs s v v)) → u ≢ v
    unlooped u v l f e = not1 v (rw h.many (live-lt n s h v l)) (and_T (bit s.live v) (bit (outs s v) v) l (f e))

    used3 : (v : ℕ) → T (applies3 c s v) → Used c s (move3 (sole s (ins s v)) v s)
    used3 v t =
        let u = sole s (ins s v) in
        let r = one-test (ins s v) v (ins-lt s v) t in
        let e : T (arcs s u v) = ins-out s u v r.1.member in
        let one : OneIn (arcs s) u v =
        record { enters = e; only = λ a k. r.1.only a (ins-in s a v k); other = unlooped u v r.0 (λ q. subst (λ x. T (arcs s x v)) q e) } in
        by3 u v (h.among u v e).0 r.0 one r.2 refl

    used4 : (v : ℕ) → T (applies4 c s v) → Used c s (move4 (sole s (outs s v)) v s)
    used4 v t =
        let u = sole s (outs s v) in
        let r = one-test (outs s v) v (outs-lt v) t in
        let e : T (arcs s v u) = r.1.member in
        let one : OneIn (flip (arcs s)) u v =
        record { enters = e; only = r.1.only; other = unlooped u v r.0 (λ q. subst (λ x. T (arcs s v x)) q e) } in
        by4 u v (h.among v u e).1 r.0 one r.2 refl

  -- ---- a step, or none

  everywhere : (applies : ℕ → Bool) → ((v : ℕ) → T (applies v) → T (bit s.live v)) → Nowhere s applies → (v : ℕ) → T (applies v) → ⊥
  everywhere applies f k v t = k v (rw h.many (live-lt n s h v (f v t))) t

  -- a move by a rule, or none and K
  abbrev pub Answered : Option Move → Type 0 → Type 0
  Answered o K = ((m : Move) × (o ≡ some m) × Used c s m) ⊎ ((o ≡ none) × K)

  first-rule : (applies : ℕ → Bool) (move : ℕ → Move) (otherwise : Option Move) (K : Type 0) → ((v : ℕ) → T (applies v) → Used c s (move v))
      → (Nowhere s applies → Answered otherwise K) → Answered (wherever s applies move otherwise) K
  first-rule applies move otherwise K used later = go (wherever-cases s applies move otherwise)
    where
      go : Found s applies move otherwise → Answered (wherever s applies move otherwise) K
      go (inl r) = inl (move r.0, r.2, used r.0 r.1)
      go (inr r) = subst (λ o. Answered o K) (sym r.1) (later r.0)

  pub next-cases : Answered (next c s) (Settled c s)
  unfolding next
  next-cases =
      first-rule (applies1 s) (λ v. move1 v s) _ (Settled c s) used1
      (λ no1. first-rule (applies2 s) (λ v. move2 v s) _ (Settled c s) used2
      (λ no2. first-rule (applies3 c s) (λ v. move3 (sole s (ins s v)) v s) _ (Settled c s) (used3 no1)
      (λ no3. first-rule (applies4 c s) (λ v. move4 (sole s (outs s v)) v s) _ (Settled c s) (used4 no1)
      (λ no4. inr (
        refl,
        record {
          not1 = everywhere (applies1 s) (λ v t. (T_and (bit s.live v) (bit (outs s v) v) t).0) no1;
          not2 = everywhere (applies2 s) (λ v t. (T_and (bit s.live v) (eqb (ins s v) 0 || eqb (outs s v) 0) t).0) no2;
          not3 = everywhere (applies3 c s) (λ v t. (T_and (bit s.live v) (eqb (ones (ins s v)) 1 && beats c (sole s (ins s v)) v) t).0) no3;
          not4 = everywhere (applies4 c s) (λ v t. (T_and (bit s.live v) (eqb (ones (outs s v)) 1 && beats c (sole s (outs s v)) v) t).0) no4;
        },
      )))))

  pub next-used : (m : Move) → next c s ≡ some m → Used c s m
  next-used m e = go next-cases
    where
      go : Answered (next c s) (Settled c s) → Used c s m
      go (inl r) =
          let q : r.0 ≡ m = cc r.1 in
          subst (λ x. Used c s x) q r.2
      go (inr r) =
          let z : ◌≡◌ {A = ℕ} 0 1 = cc r.0 in
          absurd (omega arith)

  pub next-settled : next c s ≡ none → Settled c s
  next-settled e = go next-cases
    where
      go : Answered (next c s) (Settled c s) → Settled c s
      go (inl r) =
          let z : ◌≡◌ {A = ℕ} 0 1 = cc r.1 in
          absurd (omega arith)
      go (inr r) = r.1

-- ---- what a step does to the block

-- it removes one live flip-flop
pub used-live : (c : ℕ → ℕ) (s : State) (m : Move) → Used c s m → (v : ℕ) × T (bit s.live v) × (m.after.live ≡ cut s.live v)
used-live c s m (by1 v l t e) = (v, l, ap (λ x. x.after.live) e)
used-live c s m (by2-in v l t e) = (v, l, ap (λ x. x.after.live) e)
used-live c s m (by2-out v l t e) = (v, l, ap (λ x. x.after.live) e)
used-live c s m (by3 u v k l t d e) = (v, l, ap (λ x. x.after.live) e)
used-live c s m (by4 u v k l t d e) = (v, l, ap (λ x. x.after.live) e)

pub used-fewer : (c : ℕ → ℕ) (s : State) (m : Move) → Used c s m → ones s.live ≡ suc (ones m.after.live)
used-fewer c s m r =
    let q = used-live c s m r in
    ones_cut s.live q.0 q.1 ∙ ap (λ x. suc (ones x)) (sym q.2)

pub used-sane : (c : ℕ → ℕ) (n : ℕ) (s : State) (m : Move) → Sane n s → Used c s m → Sane n m.after
used-sane c n s m h (by1 v l t e) = rw e (force-sane n s h v (live-lt n s h v l))
used-sane c n s m h (by2-in v l t e) = rw e (remove-sane n s h v)
used-sane c n s m h (by2-out v l t e) = rw e (remove-sane n s h v)
used-sane c n s m h (by3 u v k l t d e) = rw e (fold_in-sane n s h u v k)
used-sane c n s m h (by4 u v k l t d e) = rw e (fold_out-sane n s h u v k)

module _ (c : ℕ → ℕ) (n : ℕ) (s : State) (h : Sane n s) (m : Move) (e : next c s ≡ some m) where
  -- the number of live flip-flops falls by one
  pub next-fewer : ones s.live ≡ suc (ones m.after.live)
  next-fewer = used-fewer c s m (next-used c n s h m e)

  pub next_sane : Sane n m.after
  next_sane = used-sane c n s m h (next-used c n s h m e)

-- ---- where no rule applies

module _ (c : ℕ → ℕ) (n : ℕ) (s : State) (h : Sane n s) (k : Settled c s) where
  -- no self edge is left
  pub settled-self : (v : ℕ) → T (arcs s v v) → ⊥
  settled-self v t = k.not1 v (and_T (bit s.live v) (bit (outs s v) v) (h.among v v t).0 t)

  -- so the edges are those of the rows as a block of its own
  pub settled-edge : (u w : ℕ) → arcs s u w ≡ edge s.rows u w
  unfolding edge
  settled-edge u w = go (ℕ_discrete u w)
    where
      go : Dec (u ≡ w) → arcs s u w ≡ (not (eqb u w) && arcs s u w)
      go (yes e) = rw (eq-eqb u w e) (T_false (arcs s u w) (λ t. settled-self w (subst (λ x. T (arcs s x w)) e t)))
      go (no j) = rw (ne_eqb u w j)
