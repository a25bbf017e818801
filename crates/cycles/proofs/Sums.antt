-- The OR over the members of a set, made one after the other in the node room: what is known after those below u, and that a walk from one member to the
-- next keeps it. Shown by the list of the members below u, which a walk makes longer by one. Assumes nothing.
use mathlib.Core.Path.{◌≡◌, refl, sym, ap, ap₂, ◌∙◌, subst, fun_ext}
use mathlib.Core.Logic.{◌≢◌}
use mathlib.Core.Bool.{Bool, true, false, ◌&&◌, ◌||◌, or-false}
use mathlib.Core.List.{List, [], ◌∷◌, ◌++◌, map, append_assoc, append-nil}
use Prim.Native.Nat.{ℕ, zero, suc, ◌≤◌, ◌<◌}
use native.Mathlib.Omega.{arith}
use Rattle.std.proofs.lemmas.Bool.{false≢true}
use native.Mathlib.Decide.{ℕ_discrete}
use lib.Dec.{T}
use Rattle.std.specs.Prelude.{Result, Ok, Err, IsErr}
use Rattle.masks.specs.Sets.{bit, pick}
use Rattle.masks.specs.Walk.{IsLowestOf}
use Rattle.masks.proofs.Tests.{T_true, T_false}
use Rattle.graphs.specs.Graph.{Of}
use Rattle.graphs.proofs.Lists.{Of-left, map-append}
use Rattle.nodes.specs.Codes.{Table, Held}
use Rattle.nodes.specs.Promise.{Joined}
use Rattle.nodes.specs.declared.Node.{Node}
use Rattle.nodes.specs.declared.Full.{Full}
use Rattle.cycles.specs.Passes.{any, each, either, ors_after, ors}
use Rattle.cycles.specs.Work.{code_at, Code, Shows, Shown, Added, Makes, any_of, ors_of, Summed, and_of, IsVariable, Multiplied}
use Rattle.cycles.proofs.Holdings.{code-kept, code_off, code-held, added_none, added_more, lacking-in, lacking-more, makes-join}
use Rattle.cycles.proofs.Onward.{From, from-all, from-none, from-member, from-passed, from-next}

-- ---- those below b that pass a test, where none from a on does

-- what goes from b to suc b goes from a to b
pub climb : (P : ℕ → Type 0) (a b : ℕ) → a ≤ b → P a → ((w : ℕ) → a ≤ w → w < b → P w → P (suc w)) → P b
climb P a zero l p f =
    let e : a ≡ zero = omega arith in
    subst P e p
climb P a (suc b) l p f = go (ℕ_discrete a (suc b)) (λ k. climb P a b k p (λ w i j. f w i (omega arith)))
  where
    go : Dec (a ≡ suc b) → (a ≤ b → P b) → P (suc b)
    go (yes e) ih = subst P e p
    go (no k) ih =
        let k' : a ≢ suc b = k in
        f b (omega arith) (omega arith) (ih (omega arith))

pub each-skip : (p : ℕ → Bool) (a b : ℕ) → a ≤ b → ((w : ℕ) → a ≤ w → w < b → p w ≡ false) → each b p ≡ each a p
unfolding each
each-skip p a b l h =
    climb (λ n. each n p ≡ each a p) a b l refl (λ w i j e. ap (λ x. each w p ++ pick x (w ∷ []) []) (h w i j) ∙ append-nil (each w p) ∙ e)

pub any-skip : (p : ℕ → Bool) (a b : ℕ) → a ≤ b → ((w : ℕ) → a ≤ w → w < b → p w ≡ false) → any b p ≡ any a p
unfolding any
any-skip p a b l h = climb (λ n. any n p ≡ any a p) a b l refl (λ w i j e. ap (λ x. any w p || x) (h w i j) ∙ or-false (any w p) ∙ e)

-- the list goes on
pub each_more : (p : ℕ → Bool) (a b : ℕ) → a ≤ b → (rest : List ℕ) × (each b p ≡ each a p ++ rest)
unfolding each
each_more p a b l =
    climb (λ n. (rest : List ℕ) × (each n p ≡ each a p ++ rest)) a b l ([], sym (append-nil (each a p)))
    (λ w i j r.
    (r.0 ++ pick (p w) (w ∷ []) [], ap (λ xs. xs ++ pick (p w) (w ∷ []) []) r.1 ∙ append_assoc (each a p) r.0 (pick (p w) (w ∷ []) [])))

-- a member more
pub each_next : (S u : ℕ) → T (bit S u) → each (suc u) (bit S) ≡ each u (bit S) ++ (u ∷ [])
unfolding each
each_next S u t = rw (T_true (bit S u) t)

-- ---- the OR of the first one, two, ..

-- the OR of all
or_over : (ℕ → Bool) → List (ℕ → Bool) → ℕ → Bool
or_over f [] = f
or_over f (g ∷ gs) = or_over (either f g) gs

-- it may begin at 0
ors_after-none : (fs : List (ℕ → Bool)) → ors fs ≡ ors_after (λ K. false) fs
ors_after-none [] = refl
ors_after-none (f ∷ fs) = refl

ors_after-append : (f : ℕ → Bool) (gs hs : List (ℕ → Bool)) → ors_after f (gs ++ hs) ≡ ors_after f gs ++ ors_after (or_over f gs) hs
unfolding or_over
ors_after-append f [] hs = refl
ors_after-append f (g ∷ gs) hs = ap (λ L. either f g ∷ L) (ors_after-append (either f g) gs hs)

pub ors-append : (gs hs : List (ℕ → Bool)) → (rest : List (ℕ → Bool)) × (ors (gs ++ hs) ≡ ors gs ++ rest)
ors-append gs hs =
    (ors_after (or_over (λ K. false) gs) hs, ors_after-none (gs ++ hs) ∙ ors_after-append (λ K. false) gs hs ∙ ap (λ L. L ++ ors_after (or_over (λ K. false) gs) hs) (sym (ors_after-none gs)))

-- those of a list are among those of a longer one
pub ors-in : (gs hs : List (ℕ → Bool)) (f : ℕ → Bool) → Of f (ors gs) → Of f (ors (gs ++ hs))
ors-in gs hs f m =
    let r = ors-append gs hs in
    subst (Of f) (sym r.1) (Of-left f (ors gs) r.0 m)

-- ---- over the members below u of a set

abbrev pub ors_below : ℕ → ℕ → (ℕ → ℕ → Bool) → List (ℕ → Bool)
ors_below u S g = ors (map g (each u (bit S)))

abbrev pub any_below : ℕ → ℕ → (ℕ → ℕ → Bool) → ℕ → Bool
any_below u S g K = any u (λ w. bit S w && g w K)

or_over-append : (f : ℕ → Bool) (gs hs : List (ℕ → Bool)) → or_over f (gs ++ hs) ≡ or_over (or_over f gs) hs
unfolding or_over
or_over-append f [] hs = refl
or_over-append f (g ∷ gs) hs = or_over-append (either f g) gs hs

module _ (S : ℕ) (g : ℕ → ℕ → Bool) where
  or_over-is : (u : ℕ) → or_over (λ K. false) (map g (each u (bit S))) ≡ any_below u S g
  unfolding or_over each any
  or_over-is zero = refl
  or_over-is (suc u) =
      ap (or_over (λ K. false)) (map-append g (each u (bit S)) (pick (bit S u) (u ∷ []) []))
      ∙ or_over-append (λ K. false) (map g (each u (bit S))) (map g (pick (bit S u) (u ∷ []) []))
      ∙ ap (λ f. or_over f (map g (pick (bit S u) (u ∷ []) []))) (or_over-is u) ∙ go (bit S u)
    where
      go : (x : Bool) → or_over (any_below u S g) (map g (pick x (u ∷ []) [])) ≡ (λ K. any_below u S g K || (x && g u K))
      go true = refl
      go false = fun_ext (λ K. sym (or-false (any_below u S g K)))

  -- a member more
  module _ (u : ℕ) (t : T (bit S u)) where
    any_next : any_below (suc u) S g ≡ either (any_below u S g) (g u)
    unfolding any
    any_next = fun_ext (λ K. rw (T_true (bit S u) t))

    ors-next : ors_below (suc u) S g ≡ ors_below u S g ++ (either (any_below u S g) (g u) ∷ [])
    ors-next =
        ap (λ xs. ors (map g xs)) (each_next S u t) ∙ ap ors (map-append g (each u (bit S)) (u ∷ []))
        ∙ ors_after-none (map g (each u (bit S)) ++ (g u ∷ [])) ∙ ors_after-append (λ K. false) (map g (each u (bit S))) (g u ∷ [])
        ∙ ap₂ (λ L f. L ++ (either f (g u) ∷ [])) (sym (ors_after-none (map g (each u (bit S))))) (or_over-is u)

  -- from i to the next member
  module _ (i u : ℕ) (l : i ≤ u) (h : (w : ℕ) → i ≤ w → w < u → T (bit S w) → ⊥) where
    out : (w : ℕ) → i ≤ w → w < u → bit S w ≡ false
    out w a b = T_false (bit S w) (h w a b)

    pub ors-skip : ors_below u S g ≡ ors_below i S g
    ors-skip = ap (λ xs. ors (map g xs)) (each-skip (bit S) i u l out)

    pub any-skips : any_below u S g ≡ any_below i S g
    any-skips = fun_ext (λ K. any-skip (λ w. bit S w && g w K) i u l (λ w a b. rw (out w a b)))

  -- the first ones are among all
  pub ors_below-more : (a b : ℕ) → a ≤ b → (f : ℕ → Bool) → Of f (ors_below a S g) → Of f (ors_below b S g)
  ors_below-more a b l f m =
      let r = each_more (bit S) a b l in
      subst (λ L. Of f (ors L)) (sym (map-append g (each a (bit S)) r.0) ∙ ap (map g) (sym r.1))
      (ors-in (map g (each a (bit S))) (map g r.0) f m)

-- ---- the loop

-- of functions g that the table shows: the OR over the members below u was made, and has the code c
pub record Sum (ws₀ ws : List ℕ) (S : ℕ) (g : ℕ → ℕ → Bool) (u c : ℕ) : Type 0 where
  pub added : Added ws₀ ws (ors_below u S g)
  pub code : Code ws c (any_below u S g)

-- s has the members that are left
pub record Summing (ws₀ : List ℕ) (table : List Node) (S : ℕ) (ws : List ℕ) (s c : ℕ) : Type 0 where
  pub from : ℕ
  pub left : From S from s
  pub sums : (g : ℕ → ℕ → Bool) → Shows ws₀ table S g → Sum ws₀ ws S g from c

module _ (ws₀ : List ℕ) (table : List Node) (S : ℕ) where
  pub sum-none : (s : ℕ) → Table ws₀ → s ≡ S → Summing ws₀ table S ws₀ s 0
  unfolding any each
  sum-none s t e = record { from = 0; left = from-all e; sums = λ g s. record { added = added_none t; code = code_off ws₀ } }

  -- u is taken, which leaves t
  module _ (ws : List ℕ) (s c : ℕ) (p : Summing ws₀ table S ws s c) (u t : ℕ) (taken : IsLowestOf s u t) where
    member : T (bit S u)
    member = (from-member p.left taken).1

    -- the code of u, in the room as it is now
    code_of : (g : ℕ → ℕ → Bool) → Shows ws₀ table S g → Code ws (code_at table u) (g u)
    code_of g s = code-kept (p.sums g s).added.grows (s u member)

    -- what goes for those below `from` goes for those below u
    so_far : (g : ℕ → ℕ → Bool) → Shows ws₀ table S g → Sum ws₀ ws S g u c
    so_far g s =
        let q = p.sums g s in
        record {
          added = subst (Added ws₀ ws) (sym (ors-skip S g p.from u (from-member p.left taken).0 (from-passed p.left taken))) q.added;
          code = subst (Code ws c) (sym (any-skips S g p.from u (from-member p.left taken).0 (from-passed p.left taken))) q.code;
        }

    pub sum-left : Shown ws₀ table S → Held ws 0 c
    sum-left q = let x = p.sums q.given q.shown in code-held x.added.table x.code

    pub sum-right : Shown ws₀ table S → Held ws 0 (code_at table u)
    sum-right q = code-held (p.sums q.given q.shown).added.table (code_of q.given q.shown)

    module _ (ws' ms' : List ℕ) where
      one_more : (r : Result Node Full) → Joined true ws ws' ms' c (code_at table u) r → (g : ℕ → ℕ → Bool) → Shows ws₀ table S g
          → Makes ws ws' (either (any_below u S g) (g u) ∷ []) (either (any_below u S g) (g u)) r
      one_more r j g s =
          let x = so_far g s in
          makes-join true ws ws' ms' c (code_at table u) (any_below u S g) (g u) r x.added.table x.code (code_of g s) j

      pub sum-step : (d : Node) → Joined true ws ws' ms' c (code_at table u) (Ok d) → Summing ws₀ table S ws' t d.0
      sum-step d j = record { from = suc u; left = from-next p.left taken; sums = next }
        where
          next : (g : ℕ → ℕ → Bool) → Shows ws₀ table S g → Sum ws₀ ws' S g (suc u) d.0
          next g s =
              let m = one_more (Ok d) j g s in
              record {
                added = subst (Added ws₀ ws') (sym (ors-next S g u member)) (added_more (so_far g s).added m.0);
                code = subst (Code ws' d.0) (sym (any_next S g u member)) m.1;
              }

      pub sum-full : (f : Full) → Joined true ws ws' ms' c (code_at table u) (Err f) → (r : Result Node Full) → IsErr r → Summed ws₀ ws' table S r
      sum-full f j (Err x) e =
          record {
            made = λ g s.
                lacking-in (λ h m. ors_below-more S g (suc u) 64 (omega (arith, taken.inner)) h (subst (Of h) (sym (ors-next S g u member)) m))
                (lacking-more (so_far g s).added (one_more (Err f) j g s));
          }
      sum-full f j (Ok x) e = absurd (false≢true e)

  pub sum_done : (ws : List ℕ) (s : ℕ) (d : Node) → s ≡ 0 → Summing ws₀ table S ws s d.0 → Summed ws₀ ws table S (Ok d)
  sum_done ws s d e p =
      record {
        made = λ g x.
            let q = p.sums g x in
            let out : (w : ℕ) → p.from ≤ w → w < 64 → T (bit S w) → ⊥ = λ w a b. from-none e p.left w a in
            (subst (Added ws₀ ws) (sym (ors-skip S g p.from 64 p.left.bounded out)) q.added, subst (Code ws d.0) (sym (any-skips S g p.from 64 p.left.bounded out)) q.code);
      }

-- ---- the product

module _ (ws ws₁ : List ℕ) (table : List Node) (c S : ℕ) where
  -- the room was too small for the OR
  pub product-full : (f : Full) → Summed ws ws₁ table S (Err f) → (r : Result Node Full) → IsErr r → Multiplied ws ws₁ table c S r
  product-full f sum (Err x) e =
      record { made = λ v g p q. lacking-in (λ h m. Of-left h (ors_of S g) (and_of v S g ∷ []) m) (sum.made g q) }
  product-full f sum (Ok x) e = absurd (false≢true e)

  module _ (d : Node) (sum : Summed ws ws₁ table S (Ok d)) where
    pub product-left : Shown ws table S → (v : ℕ) × IsVariable ws c v → Held ws₁ 0 c
    product-left q w =
        let p = sum.made q.given q.shown in
        code-held p.0.table (code-kept p.0.grows w.1)

    pub product-right : Shown ws table S → Held ws₁ 0 d.0
    product-right q =
        let p = sum.made q.given q.shown in
        code-held p.0.table p.1

    pub product-done : (ws₂ ms₂ : List ℕ) (r : Result Node Full) → Joined false ws₁ ws₂ ms₂ c d.0 r → Multiplied ws ws₂ table c S r
    product-done ws₂ ms₂ r j = record { made = made }
      where
        made : (v : ℕ) (g : ℕ → ℕ → Bool) → IsVariable ws c v → Shows ws table S g → Makes ws ws₂ (ors_of S g ++ (and_of v S g ∷ [])) (and_of v S g) r
        made v g w q =
            let p = sum.made g q in
            go r p.0 (makes-join false ws₁ ws₂ ms₂ c d.0 (λ K. bit K v) (any_of S g) r p.0.table (code-kept p.0.grows w) p.1 j)
          where
            go : (r : Result Node Full) → Added ws ws₁ (ors_of S g) → Makes ws₁ ws₂ (and_of v S g ∷ []) (and_of v S g) r
                → Makes ws ws₂ (ors_of S g ++ (and_of v S g ∷ [])) (and_of v S g) r
            go (Ok b) a m = (added_more a m.0, m.1)
            go (Err x) a m = lacking-more a m
