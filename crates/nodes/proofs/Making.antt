-- What `make` does to a room in order: nothing where the node is there, one fair word more where it is not and there is place, and where there is none the
-- node stands nowhere. Assumes nothing.
use mathlib.Core.Path.{◌≡◌, refl, sym, ap, subst, ◌∙◌}
use mathlib.Core.Logic.{◌≢◌, ◌⊎◌, ⊎_elim, inl}
use mathlib.Core.List.{List}
use Prim.Native.Nat.{ℕ, ◌+◌, ◌-◌, ◌^◌, ◌<◌}
use native.Mathlib.Omega.{arith}
use lib.ListN.{length, get_or, set, length-set}
use lib.Seq.{get_or-set_same}
use Rattle.trees.specs.Tree.{Tree, br, mk}
use Rattle.nodes.specs.Packing.{packed}
use Rattle.nodes.specs.Codes.{Taken, Stands, Fair, home, Reach, Table, Grows}
use Rattle.nodes.specs.Promise.{Fresh, Built, Short, Makeable}
use Rattle.nodes.specs.Work.{Skipped, Open}
use Rattle.nodes.proofs.Packings.{packed-variable, packed-low, packed-high}
use Rattle.nodes.proofs.Slots.{taken-lt, taken-set, set-grows, set-again, grows-reach, grows_same}
use Rattle.nodes.proofs.Standing.{stands-grows, held-grows, stands_one, stands-code, stands-small, node-stands, node-word, node-taken}
use Rattle.trees.proofs.Branches.{mk-same, mk-other}

-- ---- one word more

fair-grows : {ws ws' : List ℕ} {w : ℕ} → Grows ws ws' → Fair ws w → Fair ws' w
fair-grows g k = record { variable = k.variable; low = held-grows g k.low; high = held-grows g k.high; differ = k.differ }

-- a fair word that was nowhere, in a slot that was not in use and that its search reaches
module _ (ws : List ℕ) (e w : ℕ) (T : Table ws) (lt : e < length ws) (z : get_or ws e 0 ≡ 0) (r : Reach ws (home w (length ws)) e)
    (a : (u : ℕ) → get_or ws u 0 ≢ w) (k : Fair ws w) where
  g : Grows ws (set ws e w)
  g = set-grows ws e w z

  at-e : (s : ℕ) → s ≡ e → get_or (set ws e w) s 0 ≡ w
  at-e s p = ap (λ (i : ℕ). get_or (set ws e w) i 0) p ∙ get_or-set_same ws e w 0 lt

  fair-set : (s : ℕ) → Taken (set ws e w) s → Fair (set ws e w) (get_or (set ws e w) s 0)
  fair-set s t =
      ⊎_elim (λ p. subst (Fair (set ws e w)) (sym (at-e s p)) (fair-grows g k))
      (λ q. subst (Fair (set ws e w)) (sym (g.keeps s q)) (fair-grows g (T.fair s q))) (taken-set ws e w s t)

  once-set : (s u : ℕ) → Taken (set ws e w) s → get_or (set ws e w) s 0 ≡ get_or (set ws e w) u 0 → s ≡ u
  once-set s u t q =
      ⊎_elim
      (λ p. ⊎_elim (λ p'. p ∙ sym p') (λ m. absurd (a u (sym (g.keeps u m) ∙ sym q ∙ at-e s p))) v)
      (λ m. ⊎_elim (λ p'. absurd (a s (sym (g.keeps s m) ∙ q ∙ at-e u p'))) (λ m'. T.once s u m (sym (g.keeps s m) ∙ q ∙ g.keeps u m')) v)
      (taken-set ws e w s t)
    where
      v : (u ≡ e) ⊎ Taken ws u
      v = taken-set ws e w u (λ y. t (q ∙ y))

  pub table-set : Table (set ws e w)
  table-set =
      record {
        small = rw (length-set ws e w) T.small;
        fair = fair-set;
        once = once-set;
        reached =
            λ s t.
            rw (length-set ws e w)
            (⊎_elim (λ p. rw (at-e s p) (grows-reach g (subst (Reach ws (home w (length ws))) (sym p) r)))
            (λ q. rw (g.keeps s q) (grows-reach g (T.reached s q))) (taken-set ws e w s t));
      }

-- ---- the four ways of `make`

-- nothing is new
pub none-fresh : (ws : List ℕ) (t : Tree) → Fresh ws ws t
none-fresh ws t s z k = absurd (k z)

-- a code that is there already
pub kept : {ws : List ℕ} {t : Tree} {c : ℕ} → Table ws → Stands ws c t → Built ws ws t c
kept {ws} {t} T s = record { table = T; grows = grows_same ws; fresh = none-fresh ws t; stands = s }

module _ (ws : List ℕ) (v lo hi : ℕ) (M : Makeable ws v lo hi) where
  T : Table ws
  T = M.table

  pub lo_small : lo < 2 ^ 17
  lo_small = stands-small T.small M.low.stands

  pub hi_small : hi < 2 ^ 17
  hi_small = stands-small T.small M.high.stands

  pub make_same : lo ≡ hi → (l h : Tree) → Stands ws lo l → Stands ws hi h → Built ws ws (mk v l h) lo
  make_same e l h sl sh = kept T (rw (mk-same v l h (stands_one sl (rw e sh))) sl)

  module _ (d : lo ≢ hi) where
    -- trees of different codes differ
    apart : (l h : Tree) → Stands ws lo l → Stands ws hi h → mk v l h ≡ br v l h
    apart l h sl sh = mk-other v l h (λ e. d (stands-code T sl (rw e sh)))

    make-here : (s : ℕ) → get_or ws s 0 ≡ packed v lo hi → (l h : Tree) → Stands ws lo l → Stands ws hi h → Built ws ws (mk v l h) (s + 2)
    make-here s e l h sl sh = kept T (rw (apart l h sl sh) (node-stands s v lo hi lo_small hi_small d e sl sh))

    word-fair : Fair ws (packed v lo hi)
    word-fair =
        let a = packed-variable v lo hi lo_small hi_small in
        let b = packed-low v lo hi lo_small hi_small in
        let c = packed-high v lo hi lo_small hi_small in
        record { variable = rw a M.variable; low = rw (a, b) M.low; high = rw (a, c) M.high; differ = rw (b, c) d }

    make-empty : (s w : ℕ) → w ≡ packed v lo hi → s < length ws → get_or ws s 0 ≡ 0 → Reach ws (home w (length ws)) s → ((u : ℕ) → get_or ws u 0 ≢ w)
        → (l h : Tree) → Stands ws lo l → Stands ws hi h → Built ws (set ws s w) (mk v l h) (s + 2)
    make-empty s w e lt z r a l h sl sh =
        let g : Grows ws (set ws s w) = set-grows ws s w z in
        let is : mk v l h ≡ br v l h = apart l h sl sh in
        let q : Stands (set ws s w) (s + 2) (br v l h) =
        node-stands s v lo hi lo_small hi_small d (get_or-set_same ws s w 0 lt ∙ e) (stands-grows g sl) (stands-grows g sh) in
        rw is
        (record {
          table = table-set ws s w T lt z r a (rw e word-fair);
          grows = g;
          fresh = λ u zu tu. (br v l h, inl refl, ⊎_elim (λ p. rw p q) (λ m. absurd (m zu)) (taken-set ws s w u tu));
          stands = q;
        })

    -- the slot that a search for the word found gets the word
    pub make-at : (s w : ℕ) → w ≡ packed v lo hi → s < length ws → (get_or ws s 0 ≡ w) ⊎ Open ws w s
        → (l h : Tree) → Stands ws lo l → Stands ws hi h → Built ws (set ws s w) (mk v l h) (s + 2)
    make-at s w e lt x l h sl sh =
        ⊎_elim (λ q. rw (set-again ws s w lt q) (make-here s (q ∙ e) l h sl sh))
        (λ o. make-empty s w e lt o.empty o.reached o.absent l h sl sh) x

    pub make-full : (w : ℕ) → w ≡ packed v lo hi → Skipped ws w 0 (length ws) → (l h : Tree) → Stands ws lo l → Stands ws hi h → Short ws ws (mk v l h)
    make-full w e p l h sl sh =
        let is : mk v l h ≡ br v l h = apart l h sl sh in
        rw is
        (record {
          table = T;
          grows = grows_same ws;
          fresh = none-fresh ws (br v l h);
          full = p.filled;
          lacks = (br v l h, inl refl, gone);
        })
      where
        gone : (c : ℕ) → Stands ws c (br v l h) → ⊥
        gone c r = p.absent (c - 2) (omega arith) (taken-lt ws (c - 2) (node-taken r)) (node-word T r sl sh ∙ sym e)
