-- Loops and closed walks: there is a loop exactly where a walk closes, so a set meets every loop exactly where it leaves no closed walk. And the edges
-- of the graph as lent: between two different flip-flops of the block. Assumes nothing.
use mathlib.Core.Path.{◌≡◌, refl, sym, ap, ◌∙◌, subst}
use mathlib.Core.Logic.{◌⊎◌, inl, inr, ⊎_elim, ◌↔◌}
use mathlib.Core.Bool.{Bool, not, ◌&&◌}
use mathlib.Core.List.{List, [], ◌∷◌}
use Prim.Native.Nat.{ℕ, zero, suc, ◌+◌, ◌≤◌, ◌<◌, ◌^◌}
use native.Mathlib.Omega.{arith}
use native.Mathlib.Decide.{ℕ_discrete, dec_lt}
use lib.ListN.{length, get_or, get_or-eq_default}
use lib.Dec.{T, eqb, eqb_refl, T_not}
use lib.Pow.{pow_pos}
use Rattle.masks.specs.Sets.{bit, cut}
use Rattle.masks.proofs.Tests.{T_and, T_true, T-ne, ne-T, T?, T-no}
use Rattle.masks.proofs.Bits.{bit-zero, bit_high}
use Rattle.masks.proofs.PutCut.{cut-gone, cut-same, cut-other, cut-lt}
use Rattle.graphs.specs.Graph.{edge, plain_from, plain, Of, Differ, Walk, edge_to, step_to, Chain, Loop}
use Rattle.graphs.specs.Light.{left, Meets}
use Rattle.graphs.specs.Components.{every}
use Rattle.graphs.proofs.Lists.{of?}

module _ (E : ℕ → ℕ → Bool) (K : ℕ → Bool) where
  -- ---- a loop is a closed walk

  -- a chain whose end is kept is a walk
  chain-walk : (u : ℕ) (xs : List ℕ) (w : ℕ) → T (K w) → Chain E K u xs w → Walk E K u w
  chain-walk u [] w k c = edge_to c.0 k c.1
  chain-walk u (x ∷ xs) w k c = step_to c.0 c.1 (chain-walk x xs w k c.2)

  chain-kept : (u : ℕ) (xs : List ℕ) (w : ℕ) → Chain E K u xs w → (v : ℕ) → Of v (u ∷ xs) → T (K v)
  chain-kept u [] w c v (inl e) = subst (λ z. T (K z)) (sym e) c.0
  chain-kept u [] w c v (inr h) = absurd h
  chain-kept u (x ∷ xs) w c v (inl e) = subst (λ z. T (K z)) (sym e) c.0
  chain-kept u (x ∷ xs) w c v (inr h) = chain-kept x xs w c.2 v h

  pub loop-walk : Loop E K → (v : ℕ) × Walk E K v v
  loop-walk l =
      (l.first, chain-walk l.first l.rest l.first (chain-kept l.first l.rest l.first l.chain l.first (inl refl)) l.chain)

  -- ---- a closed walk has a loop: cut it at the first flip-flop that comes twice

  -- the part of a chain before the first `a`
  record Before (u a : ℕ) (xs : List ℕ) : Type 0 where
    part : List ℕ
    chain : Chain E K u part a
    without : Of a part → ⊥
    within : (y : ℕ) → Of y part → Of y xs
    differ : Differ xs → Differ part

  before : (u a : ℕ) (xs : List ℕ) (w : ℕ) → Chain E K u xs w → Of a xs → Before u a xs
  before u a [] w c h = absurd h
  before u a (x ∷ xs) w c h = go (ℕ_discrete a x) (before x a xs w c.2)
    where
      go : Dec (a ≡ x) → (Of a xs → Before x a xs) → Before u a (x ∷ xs)
      go (yes e) ih = record { part = []; chain = (c.0, rw e c.1); without = λ z. z; within = λ y z. absurd z; differ = λ z. tt }
      go (no k) ih =
          let b : Before x a xs = ih (⊎_elim (λ e. absurd (k e)) (λ z. z) h) in
          record {
            part = x ∷ b.part;
            chain = (c.0, c.1, b.chain);
            without = ⊎_elim k b.without;
            within = λ y. ⊎_elim (λ e. inl e) (λ z. inr (b.within y z));
            differ = λ z. ((λ i. z.0 (b.within x i)), b.differ z.1);
          }

  -- a chain through different flip-flops
  record Simple (u w : ℕ) : Type 0 where
    through : List ℕ
    chain : Chain E K u through w
    differ : Differ (u ∷ through)

  -- a walk repeats no flip-flop before its end, or holds a loop
  simple : {u w : ℕ} → Walk E K u w → Loop E K ⊎ Simple u w
  simple (edge_to ku kw e) = inr (record { through = []; chain = (ku, e); differ = ((λ z. z), tt) })
  simple (step_to {u = u} {x = x} {w = w} ku e p) = ⊎_elim (λ l. inl l) (λ s. add s (of? u (x ∷ s.through))) (simple p)
    where
      add : (s : Simple x w) → Dec (Of u (x ∷ s.through)) → Loop E K ⊎ Simple u w
      add s (yes h) =
          let b : Before u u (x ∷ s.through) = before u u (x ∷ s.through) w (ku, e, s.chain) h in
          inl (record { first = u; rest = b.part; differ = (b.without, b.differ s.differ); chain = b.chain })
      add s (no k) = inr (record { through = x ∷ s.through; chain = (ku, e, s.chain); differ = (k, s.differ) })

  pub walk_loop : (v : ℕ) → Walk E K v v → Loop E K
  walk_loop v p = ⊎_elim (λ l. l) (λ s. record { first = v; rest = s.through; differ = s.differ; chain = s.chain }) (simple p)

  pub loop-iff : Loop E K ↔ ((v : ℕ) × Walk E K v v)
  loop-iff = (loop-walk, λ p. walk_loop p.0 p.1)

  -- with no edge from a flip-flop to itself, a loop goes through two or more
  pub loop-two : ((v : ℕ) → T (E v v) → ⊥) → (l : Loop E K) → 2 ≤ length (l.first ∷ l.rest)
  loop-two h l = go l.first l.rest l.chain
    where
      go : (u : ℕ) (xs : List ℕ) → Chain E K u xs u → 2 ≤ length (u ∷ xs)
      go u [] c = absurd (h u c.1)
      go u (x ∷ xs) c = omega arith

-- ---- sets that meet every loop

-- S leaves no closed walk
abbrev pub Hits : (ℕ → ℕ → Bool) → ℕ → Type 0
Hits E S = (w : ℕ) → Walk E (left S) w w → ⊥

pub meets-hits : (E : ℕ → ℕ → Bool) (S : ℕ) → Meets E S ↔ Hits E S
meets-hits E S = ((λ m w p. m (walk_loop E (left S) w p)), λ h l. let p = loop-walk E (left S) l in h p.0 p.1)

-- one that S holds of a list, or S leaves them all
held : (S : ℕ) (xs : List ℕ) → ((v : ℕ) × Of v xs × T (bit S v)) ⊎ ((v : ℕ) → Of v xs → T (left S v))
held S [] = inr (λ v h. absurd h)
held S (x ∷ xs) = go (T? (bit S x)) (held S xs)
  where
    go : Dec (T (bit S x)) → ((v : ℕ) × Of v xs × T (bit S v)) ⊎ ((v : ℕ) → Of v xs → T (left S v))
        → ((v : ℕ) × Of v (x ∷ xs) × T (bit S v)) ⊎ ((v : ℕ) → Of v (x ∷ xs) → T (left S v))
    go (yes t) r = inl (x, inl refl, t)
    go (no k) (inl r) = inl (r.0, inr r.1, r.2)
    go (no k) (inr r) = inr (λ v. ⊎_elim (λ e. subst (λ z. T (left S z)) (sym e) (T-no (bit S x) k)) (r v))

-- a chain keeps what its flip-flops pass
chain-in : (E : ℕ → ℕ → Bool) (K K' : ℕ → Bool) (u : ℕ) (xs : List ℕ) (w : ℕ) → ((v : ℕ) → Of v (u ∷ xs) → T (K' v)) → Chain E K u xs w
    → Chain E K' u xs w
chain-in E K K' u [] w h c = (h u (inl refl), c.1)
chain-in E K K' u (x ∷ xs) w h c = (h u (inl refl), c.1, chain-in E K K' x xs w (λ v m. h v (inr m)) c.2)

-- S meets every loop where it holds a flip-flop of each
pub meets-each : (E : ℕ → ℕ → Bool) (S : ℕ) → Meets E S ↔ ((l : Loop E every) → (v : ℕ) × Of v (l.first ∷ l.rest) × T (bit S v))
meets-each E S = (forth, back)
  where
    forth : Meets E S → (l : Loop E every) → (v : ℕ) × Of v (l.first ∷ l.rest) × T (bit S v)
    forth m l =
        ⊎_elim (λ r. r)
        (λ r. absurd
        (m (record {
          first = l.first;
          rest = l.rest;
          differ = l.differ;
          chain = chain-in E every (left S) l.first l.rest l.first r l.chain;
        })))
        (held S (l.first ∷ l.rest))

    back : ((l : Loop E every) → (v : ℕ) × Of v (l.first ∷ l.rest) × T (bit S v)) → Meets E S
    back h l =
        let chain' : Chain E every l.first l.rest l.first = chain-in E (left S) every l.first l.rest l.first (λ v m. tt) l.chain in
        let r = h (record { first = l.first; rest = l.rest; differ = l.differ; chain = chain' }) in
        T_not (bit S r.0) (chain-kept E (left S) l.first l.rest l.first l.chain r.0 r.1) r.2

-- ---- the edges of the graph as lent

-- every row has bits below the number of rows only
abbrev pub RowsFit : List ℕ → Type 0
RowsFit rows = (v : ℕ) → v < length rows → get_or rows v 0 < 2 ^ length rows

pub rows-lt : (rows : List ℕ) → RowsFit rows → (v : ℕ) → get_or rows v 0 < 2 ^ length rows
rows-lt rows fit v = go (dec_lt v (length rows))
  where
    go : Dec (v < length rows) → get_or rows v 0 < 2 ^ length rows
    go (yes l) = fit v l
    go (no k) =
        let k' : ¬ (v < length rows) = k in
        rw (get_or-eq_default rows 0 {n = v} (omega arith)) (pow_pos (length rows))

pub edge-self : (rows : List ℕ) (v : ℕ) → T (edge rows v v) → ⊥
unfolding edge
edge-self rows v t = T-ne v v (T_and (not (eqb v v)) (bit (get_or rows v 0) v) t).0 refl

-- a bit of a row: the row is there, and the bit is below the number of rows
pub row_from : (rows : List ℕ) (u w : ℕ) → T (bit (get_or rows u 0) w) → u < length rows
row_from rows u w t = go (dec_lt u (length rows))
  where
    go : Dec (u < length rows) → u < length rows
    go (yes l) = l
    go (no k) =
        let k' : ¬ (u < length rows) = k in
        absurd (subst T (ap (λ r. bit r w) (get_or-eq_default rows 0 (omega arith)) ∙ bit-zero w) t)

pub row-to-lt : (rows : List ℕ) → RowsFit rows → (u w : ℕ) → T (bit (get_or rows u 0) w) → w < length rows
row-to-lt rows fit u w t = go (dec_lt w (length rows))
  where
    go : Dec (w < length rows) → w < length rows
    go (yes l) = l
    go (no k) =
        let k' : ¬ (w < length rows) = k in
        absurd (subst T (bit_high (length rows) (get_or rows u 0) w (rows-lt rows fit u) (omega arith)) t)

edge-bit : (rows : List ℕ) (u w : ℕ) → T (edge rows u w) → T (bit (get_or rows u 0) w)
unfolding edge
edge-bit rows u w t = (T_and (not (eqb u w)) (bit (get_or rows u 0) w) t).1

pub edge-from : (rows : List ℕ) (u w : ℕ) → T (edge rows u w) → u < length rows
edge-from rows u w t = row_from rows u w (edge-bit rows u w t)

pub edge-to-lt : (rows : List ℕ) → RowsFit rows → (u w : ℕ) → T (edge rows u w) → w < length rows
edge-to-lt rows fit u w t = row-to-lt rows fit u w (edge-bit rows u w t)

-- ---- the rows with self edges dropped

pub plain_row : (v : ℕ) (rows : List ℕ) (i : ℕ) → get_or (plain_from v rows) i 0 ≡ cut (get_or rows i 0) (v + i)
unfolding plain_from
plain_row v [] i = sym (cut-gone 0 (v + i) (bit-zero (v + i)))
plain_row v (r ∷ rs) zero = ap (cut r) (omega arith)
plain_row v (r ∷ rs) (suc i) = plain_row (suc v) rs i ∙ ap (cut (get_or rs i 0)) (omega arith)

pub plain-length : (v : ℕ) (rows : List ℕ) → length (plain_from v rows) ≡ length rows
unfolding plain_from
plain-length v [] = refl
plain-length v (r ∷ rs) = ap suc (plain-length (suc v) rs)

pub plain_fits : (rows : List ℕ) → RowsFit rows → RowsFit (plain rows)
plain_fits rows fit v l =
    rw (plain-length 0 rows, plain_row 0 rows v) (cut-lt (length rows) (get_or rows v 0) (0 + v) (rows-lt rows fit v))

pub edge-plain : (rows : List ℕ) (u w : ℕ) → edge rows u w ≡ bit (get_or (plain rows) u 0) w
unfolding edge
edge-plain rows u w = go (ℕ_discrete u w) ∙ ap (λ r. bit r w) (ap (cut (get_or rows u 0)) (omega arith) ∙ sym (plain_row 0 rows u))
  where
    go : Dec (u ≡ w) → (not (eqb u w) && bit (get_or rows u 0) w) ≡ bit (cut (get_or rows u 0) u) w
    go (yes e) = rw (← e, T_true (eqb u u) (eqb_refl u)) (sym (cut-same (get_or rows u 0) u))
    go (no k) = rw (T_true (not (eqb u w)) (ne-T u w k), cut-other (get_or rows u 0) u w (λ e. k (sym e)))
