-- Stopping early: once a pass changes no member of B, each later pass has the same functions, so the result, the listed functions and their need stay as
-- they are. Shown from the passes' definition, in which Fi(v) depends on F(i-1) at members of B alone. Assumes nothing.
use mathlib.Core.Path.{◌≡◌, refl, sym, ap, ap₂, ◌∙◌, subst, fun_ext}
use mathlib.Core.Logic.{◌≢◌, ⊎_elim, ◌↔◌}
use mathlib.Core.Bool.{Bool, true, false, ◌&&◌}
use mathlib.Core.List.{List, [], ◌∷◌, ◌++◌, map}
use Prim.Native.Nat.{ℕ, zero, suc, ◌≤◌}
use native.Mathlib.Omega.{arith}
use native.Mathlib.Decide.{ℕ_discrete}
use lib.Count.{ones}
use lib.Dec.{T}
use Rattle.masks.specs.Sets.{bit, pick}
use Rattle.graphs.specs.Graph.{Of}
use Rattle.graphs.specs.Components.{inside}
use Rattle.graphs.proofs.Lists.{Of-left, Of-right, Of-cases, map-ext}
use Rattle.trees.specs.Need.{Need}
use Rattle.trees.proofs.Needs.{need-once}
use Rattle.cycles.specs.Search.{back_of}
use Rattle.cycles.specs.Passes.{each, joined, ors, within, F, result, handed, at_flop, passes, listed, cycle, functions}
use Rattle.cycles.proofs.Each.{any-ext}

-- pass i + 1 changes no member of B
abbrev pub Settled : (ℕ → ℕ → Bool) → ℕ → ℕ → ℕ → Type 0
Settled E n B i = (b : ℕ) → T (bit B b) → F E n B (suc i) b ≡ F E n B i b

module _ (E : ℕ → ℕ → Bool) (n B : ℕ) where
  -- a pass goes by the members of B alone
  within-last : (last last' : ℕ → ℕ → Bool) (K : ℕ) → ((u : ℕ) → T (bit B u) → last u K ≡ last' u K) → (d v : ℕ)
      → within E n B last d v K ≡ within E n B last' d v K
  unfolding within
  within-last last last' K same zero v = refl
  within-last last last' K same (suc d) v =
      ap (λ x. bit K v && x)
      (any-ext n (λ u. E u v && pick (bit B u) (last u K) (within E n B last d u K)) (λ u. E u v && pick (bit B u) (last' u K) (within E n B last' d u K))
      (λ u l. ap (λ x. E u v && x) (go u (bit B u) (same u) (within-last last last' K same d u))))
    where
      go : (u : ℕ) (x : Bool) → (T x → last u K ≡ last' u K) → within E n B last d u K ≡ within E n B last' d u K
          → pick x (last u K) (within E n B last d u K) ≡ pick x (last' u K) (within E n B last' d u K)
      go u true h k = h tt
      go u false h k = k

  module _ (i : ℕ) (settled : Settled E n B i) where
    pub pass-stops : (j : ℕ) → suc i ≤ j → (v : ℕ) → F E n B j v ≡ F E n B (suc i) v
    unfolding F
    pass-stops zero l v = absurd (omega arith)
    pass-stops (suc j) l v = go (ℕ_discrete j i) (pass-stops j)
      where
        go : Dec (j ≡ i) → (suc i ≤ j → (w : ℕ) → F E n B j w ≡ F E n B (suc i) w) → F E n B (suc j) v ≡ F E n B (suc i) v
        go (yes e) ih = ap (λ z. F E n B (suc z) v) e
        go (no k) ih =
            let k' : j ≢ i = k in
            fun_ext (λ K. within-last (F E n B j) (F E n B i) K (λ b t. ap (λ f. f K) (ih (omega arith) b ∙ settled b t)) n v)

    pub member-stops : (j : ℕ) → i ≤ j → (b : ℕ) → T (bit B b) → F E n B j b ≡ F E n B i b
    member-stops j l b t = go (ℕ_discrete j i)
      where
        go : Dec (j ≡ i) → F E n B j b ≡ F E n B i b
        go (yes e) = ap (λ z. F E n B z b) e
        go (no k) =
            let k' : j ≢ i = k in
            pass-stops j (omega arith) b ∙ settled b t

    pub result-stops : (k : ℕ) → suc i ≤ k → result E n B k ≡ result E n B (suc i)
    unfolding result
    result-stops k l =
        fun_ext
        (λ K.
        any-ext n (λ b. bit B b && F E n B k b K) (λ b. bit B b && F E n B (suc i) b K)
        (λ b m. ap (λ x. bit B b && x) (ap (λ f. f K) (pass-stops k l b))))

    -- ---- the listed functions

    handed-stops : (j : ℕ) → i ≤ j → (u : ℕ) → handed E n B j u ≡ handed E n B i u
    handed-stops j l u = go (bit B u) (member-stops j l u)
      where
        go : (x : Bool) → (T x → F E n B j u ≡ F E n B i u) → pick x (F E n B j u) (F E n B (suc j) u) ≡ pick x (F E n B i u) (F E n B (suc i) u)
        go true h = h tt
        go false h = pass-stops (suc j) (omega arith) u

    at_flop-stops : (j : ℕ) → i ≤ j → (v : ℕ) → at_flop E n B j v ≡ at_flop E n B i v
    at_flop-stops j l v =
        ap₂ ◌++◌
        (ap ors (map-ext (handed E n B j) (handed E n B i) (each n (λ u. E u v)) (λ u m. handed-stops j l u)))
        (ap (λ f. f ∷ []) (pass-stops (suc j) (omega arith) v))

    module _ (C : ℕ) where
      passes-more : (j : ℕ) → suc i ≤ j → (f : ℕ → Bool) → Of f (passes E n B C (suc i)) → Of f (passes E n B C j)
      unfolding passes
      passes-more zero l f m = absurd (omega arith)
      passes-more (suc j) l f m = go (ℕ_discrete j i) (λ k. passes-more j k f m)
        where
          go : Dec (j ≡ i) → (suc i ≤ j → Of f (passes E n B C j)) → Of f (passes E n B C (suc j))
          go (yes e) ih = subst (λ z. Of f (passes E n B C (suc z))) (sym e) m
          go (no k) ih =
              let k' : j ≢ i = k in
              Of-left f (passes E n B C j) (joined (map (at_flop E n B j) (each n (bit C)))) (ih (omega arith))

      passes-stop : (j : ℕ) → suc i ≤ j → (f : ℕ → Bool) → Of f (passes E n B C j) → Of f (passes E n B C (suc i))
      unfolding passes
      passes-stop zero l f m = absurd (omega arith)
      passes-stop (suc j) l f m =
          ⊎_elim (go (ℕ_discrete j i) (passes-stop j)) new (Of-cases f (passes E n B C j) (joined (map (at_flop E n B j) (each n (bit C)))) m)
        where
          new : Of f (joined (map (at_flop E n B j) (each n (bit C)))) → Of f (passes E n B C (suc i))
          new h =
              Of-right f (passes E n B C i) (joined (map (at_flop E n B i) (each n (bit C))))
              (subst (λ L. Of f (joined L)) (map-ext (at_flop E n B j) (at_flop E n B i) (each n (bit C)) (λ v m. at_flop-stops j (omega arith) v)) h)

          go : Dec (j ≡ i) → (suc i ≤ j → (g : ℕ → Bool) → Of g (passes E n B C j) → Of g (passes E n B C (suc i))) → Of f (passes E n B C j)
              → Of f (passes E n B C (suc i))
          go (yes e) ih h =
              Of-left f (passes E n B C i) (joined (map (at_flop E n B i) (each n (bit C)))) (subst (λ z. Of f (passes E n B C z)) e h)
          go (no k) ih h =
              let k' : j ≢ i = k in
              ih (omega arith) f h

      -- the same functions are listed
      pub listed-stops : (k : ℕ) → suc i ≤ k → (f : ℕ → Bool) → Of f (listed E n B C k) ↔ Of f (listed E n B C (suc i))
      listed-stops k l f = (
        change (passes E n B C k) (passes E n B C (suc i)) (ends k) (ends (suc i)) (passes-stop k l f) (λ m. subst (Of f) same m),
        change (passes E n B C (suc i)) (passes E n B C k) (ends (suc i)) (ends k) (passes-more k l f) (λ m. subst (Of f) (sym same) m),
      )
        where
          vars : List (ℕ → Bool)
          vars = map (λ v K. bit K v) (each n (bit C))

          ends : ℕ → List (ℕ → Bool)
          ends j = ors (map (F E n B j) (each n (bit B)))

          same : ends k ≡ ends (suc i)
          same = ap ors (map-ext (F E n B k) (F E n B (suc i)) (each n (bit B)) (λ b m. pass-stops k l b))

          change : (ps qs us ws : List (ℕ → Bool)) → (Of f ps → Of f qs) → (Of f us → Of f ws) → Of f (vars ++ ps ++ us) → Of f (vars ++ qs ++ ws)
          change ps qs us ws g h m =
              ⊎_elim
              (λ a.
              Of-left f (vars ++ qs) ws
              (⊎_elim (λ b. Of-left f vars qs b) (λ b. Of-right f vars qs (g b)) (Of-cases f vars ps a)))
              (λ a. Of-right f (vars ++ qs) ws (h a)) (Of-cases f (vars ++ ps) us m)

      -- so they have the same need
      pub need-stops : (k : ℕ) → suc i ≤ k → (m : ℕ) → Need (listed E n B C k) m ↔ Need (listed E n B C (suc i)) m
      need-stops k l m = need-once (listed E n B C k) (listed E n B C (suc i)) (listed-stops k l) m

-- ---- of a component: "Stopping once a pass changes no member of B gives the same f and need"

module _ (E : ℕ → ℕ → Bool) (n C i : ℕ) (settled : Settled (inside E C) n (back_of E n C) i) (within-k : suc i ≤ ones (back_of E n C)) where
  pub cycle-stops : cycle E n C ≡ result (inside E C) n (back_of E n C) (suc i)
  cycle-stops = result-stops (inside E C) n (back_of E n C) i settled (ones (back_of E n C)) within-k

  pub functions-stop : (f : ℕ → Bool) → Of f (functions E n C) ↔ Of f (listed (inside E C) n (back_of E n C) C (suc i))
  functions-stop = listed-stops (inside E C) n (back_of E n C) i settled C (ones (back_of E n C)) within-k

  pub component-need-stops : (m : ℕ) → Need (functions E n C) m ↔ Need (listed (inside E C) n (back_of E n C) C (suc i)) m
  component-need-stops = need-stops (inside E C) n (back_of E n C) i settled C (ones (back_of E n C)) within-k
