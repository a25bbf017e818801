-- The cycle function of a component in an emptied room: the variables, the passes and the OR over B are exactly the listed functions, so the room has exactly
-- the need in use; and where it is full on the way, some of them need more than it has, so all of them do. Assumes nothing.
use mathlib.Core.Path.{◌≡◌, refl, sym, ap, ap₂, ◌∙◌, subst, fun_ext}
use mathlib.Core.Logic.{◌⊎◌, inl, inr, ⊎_elim}
use mathlib.Core.Bool.{Bool, false, ◌&&◌}
use mathlib.Core.List.{List, [], ◌++◌, map}
use Prim.Native.Nat.{ℕ, suc, ◌≤◌, ◌<◌}
use native.Mathlib.Omega.{arith}
use lib.Count.{ones}
use lib.Dec.{T}
use lib.ListN.{length, get_or, replicate, get_or-replicate}
use Rattle.std.specs.Prelude.{Result, Ok, Err, IsErr}
use Rattle.std.proofs.lemmas.Bool.{false≢true}
use Rattle.masks.specs.Sets.{bit, number}
use Rattle.masks.proofs.Tests.{T_true, T_false}
use Rattle.graphs.specs.Graph.{edge, Of}
use Rattle.graphs.specs.Components.{Component, inside}
use Rattle.graphs.specs.Work.{Sound}
use Rattle.graphs.proofs.Lists.{Of-left, Of-right, Of-cases, at_of}
use Rattle.graphs.proofs.Components.{EdgesBelow, edges-below}
use Rattle.trees.specs.Tree.{eval}
use Rattle.trees.specs.Best.{Under}
use Rattle.trees.specs.Need.{Need}
use Rattle.trees.proofs.Canonical.{Good, canon}
use Rattle.trees.proofs.Needs.{Within, need-within}
use Rattle.nodes.specs.Rooms.{used}
use Rattle.nodes.specs.declared.Node.{Node}
use Rattle.nodes.specs.declared.Full.{Full}
use Rattle.nodes.proofs.Standing.{stands_good}
use Rattle.cycles.specs.Passes.{each, ors, F, result, passes, listed, cycle, functions}
use Rattle.cycles.specs.declared.search.Order.{Order}
use Rattle.cycles.specs.Work.{node_of, Searched, Code, Shown, Holding, Added, Beyond, Lacking, Makes, any_of, ors_of, Summed, variables_of, VariablesPromise, back_in, pass_at, listed_before, ones_at_first, Ready, Ended, PassesPromise, TooSmall, BuildPromise}
use Rattle.cycles.proofs.Searches.{member-lt, back-lt}
use Rattle.cycles.proofs.Stops.{component-need-stops, cycle-stops, functions-stop}
use Rattle.cycles.proofs.Models.{need_of, need_of-is, cycle_t, cycle-is, cycle-fine}
use Rattle.cycles.proofs.Holdings.{code-on, holding-none, holding-need, added_more, lacking-more}
use Rattle.cycles.proofs.Sums.{climb, each-skip, any-skip}

module _ (rows : List ℕ) (C : ℕ) (sound : Sound rows) (comp : Component (edge rows) C) where
  abbrev E : ℕ → ℕ → Bool
  E = edge rows

  abbrev n : ℕ
  n = length rows

  abbrev B : ℕ
  B = back_in rows C

  low : EdgesBelow E n
  low = edges-below rows sound.fit

  pub members-in : (v : ℕ) → T (bit C v) → v < n
  members-in = member-lt low comp

  -- the order has members
  pub inner-flops : (order : Order) → Searched E n C order → (k : ℕ) → k < length order.flops.items → get_or order.flops.items k 0 < 64
  inner-flops order s k l =
      let v = get_or order.flops.items k 0 in
      omega (arith, member-lt low comp v ((s.order.members v).0 (at_of order.flops.items k l)), sound.few)

  -- the members of a set below n are those below 64
  below : (S : ℕ) → ((v : ℕ) → T (bit S v) → v < n) → (w : ℕ) → n ≤ w → bit S w ≡ false
  below S h w l = T_false (bit S w) (λ t. let k : w < n = h w t in omega arith)

  each-members : (S : ℕ) → ((v : ℕ) → T (bit S v) → v < n) → each 64 (bit S) ≡ each n (bit S)
  each-members S h = each-skip (bit S) n 64 sound.few (λ w l k. below S h w l)

  -- ---- the listed functions

  vars-are : variables_of C ≡ map (λ v K. bit K v) (each n (bit C))
  vars-are = ap (map (λ v K. bit K v)) (each-members C (member-lt low comp))

  ends-are : (i : ℕ) → ors_of B (pass_at rows C i) ≡ ors (map (pass_at rows C i) (each n (bit B)))
  ends-are i = ap (λ vs. ors (map (pass_at rows C i) vs)) (each-members B (back-lt low comp))

  result-is : (i : ℕ) → any_of B (pass_at rows C i) ≡ result (inside E C) n B i
  unfolding result
  result-is i =
      fun_ext (λ K. any-skip (λ b. bit B b && pass_at rows C i b K) n 64 sound.few (λ w l k. ap (λ x. x && pass_at rows C i w K) (below B (back-lt low comp) w l)))

  listed-are : (i : ℕ) → variables_of C ++ listed_before rows C i ++ ors_of B (pass_at rows C i) ≡ listed (inside E C) n B C i
  listed-are i = ap₂ (λ vs fs. vs ++ listed_before rows C i ++ fs) vars-are (ends-are i)

  -- what is listed in the first passes is listed
  passes-in : (i k : ℕ) → i ≤ k → Within (listed_before rows C i) (listed_before rows C k)
  unfolding passes
  passes-in i k l f m = climb (λ j. Of f (listed_before rows C j)) i k l m (λ j a b q. Of-left f (listed_before rows C j) _ q)

  early-in : (i : ℕ) → i ≤ ones B → Within (variables_of C ++ listed_before rows C i) (functions E n C)
  early-in i l f m =
      subst (Of f) (listed-are (ones B))
      (Of-left f (variables_of C ++ listed_before rows C (ones B)) (ors_of B (pass_at rows C (ones B)))
      (⊎_elim (λ k. Of-left f (variables_of C) (listed_before rows C (ones B)) k)
      (λ k. Of-right f (variables_of C) (listed_before rows C (ones B)) (passes-in i (ones B) l f k)) (Of-cases f (variables_of C) (listed_before rows C i) m)))

  -- ---- the room is too small

  -- some of the listed functions need more than there is
  beyond-build : (m : ℕ) (L : List (ℕ → Bool)) → Within L (functions E n C) → Beyond m L → TooSmall E n C m
  beyond-build m L w b =
      let e : b.count ≤ need_of E n C =
      need-within b.part (functions E n C) b.count (need_of E n C) (λ f q. w f (b.within f q)) b.need (need_of-is low comp) in
      (need_of E n C, need_of-is low comp, omega (arith, b.more))

  lacking-build : {ws ws' : List ℕ} {L : List (ℕ → Bool)} → Holding ws [] → Within L (functions E n C) → Lacking ws ws' L → TooSmall E n C (length ws')
  lacking-build {ws} {ws'} {L} h w l = subst (TooSmall E n C) (sym l.size) (beyond-build (length ws) L w (l.beyond [] h))

  -- ---- enough passes

  module _ (i : ℕ) (within : i ≤ ones B)
      (enough : (i ≡ ones B) ⊎ ((j : ℕ) × (i ≡ suc j) × ((b : ℕ) → T (bit B b) → pass_at rows C (suc j) b ≡ pass_at rows C j b))) where
    -- what holds of them all, and of those with the last that changed nothing, holds of these
    either_way : (P : ℕ → Type 0) → P (ones B)
        → ((j : ℕ) → ((b : ℕ) → T (bit B b) → pass_at rows C (suc j) b ≡ pass_at rows C j b) → suc j ≤ ones B → P (suc j)) → P i
    either_way P f g = go enough
      where
        go : (i ≡ ones B) ⊎ ((j : ℕ) × (i ≡ suc j) × ((b : ℕ) → T (bit B b) → pass_at rows C (suc j) b ≡ pass_at rows C j b)) → P i
        go (inl e) = subst P (sym e) f
        go (inr r) = subst P (sym r.1) (g r.0 r.2 (subst (λ m. m ≤ ones B) r.1 within))

    enough-in : Within (listed (inside E C) n B C i) (functions E n C)
    enough-in =
        either_way (λ m. Within (listed (inside E C) n B C m) (functions E n C)) (λ f m. m) (λ j s l f m. (functions-stop E n C j s l f).1 m)

    enough-need : (m : ℕ) → Need (listed (inside E C) n B C i) m → Need (functions E n C) m
    enough-need m =
        either_way (λ k. Need (listed (inside E C) n B C k) m → Need (functions E n C) m) (λ q. q) (λ j s l q. (component-need-stops E n C j s l m).1 q)

    enough-cycle : result (inside E C) n B i ≡ cycle E n C
    enough-cycle = either_way (λ k. result (inside E C) n B k ≡ cycle E n C) refl (λ j s l. sym (cycle-stops E n C j s l))

  -- ---- in an emptied room

  too-small : (ws : List ℕ) → TooSmall E n C (length ws) → (r : Result Node Full) → IsErr r → BuildPromise E n C ws r
  too-small ws t (Ok c) e = absurd (false≢true e)
  too-small ws t (Err f) e = t

  module _ (ws : List ℕ) (small : length ws ≤ 65536) (is_empty : ws ≡ replicate (length ws) 0) where
    empty : Holding ws []
    empty = subst (λ xs. Holding xs []) (sym is_empty) (holding-none (length ws) small)

    pub variables-full : (ws₁ : List ℕ) (f : Full) → VariablesPromise ws ws₁ C (Err f) → (r : Result Node Full) → IsErr r → BuildPromise E n C ws₁ r
    variables-full ws₁ f v =
        too-small ws₁ (lacking-build empty (λ g m. early-in 0 (omega arith) g (Of-left g (variables_of C) (listed_before rows C 0) m)) v)

    module _ (ws₁ : List ℕ) (variables : List Node) (vars : VariablesPromise ws ws₁ C (Ok variables)) (order : Order) (sources : List ℕ)
        (s : Searched E n C order) (into : (v u : ℕ) → bit (get_or sources v 0) u ≡ inside E C u v) where
      -- the first pass may begin: "F0 of each member of B is the constant 1"
      pub first-ready : Ready rows C 0 ws₁ order sources variables ones_at_first
      unfolding F
      first-ready =
          record {
            wired = record { sound = sound; component = comp; searched = s; into = into };
            given = vars.1;
            last = λ u t.
                let l : u < 64 = omega (arith, back-lt low comp u t, sound.few) in
                subst (λ z. Code ws₁ z (λ K. bit B u)) (sym (ap (λ (x : Node). x.0) (get_or-replicate 64 u (node_of 1) (node_of 0) l)))
                (subst (λ z. Code ws₁ 1 (λ K. z)) (sym (T_true (bit B u) t)) (code-on ws₁));
          }

      abbrev Passes : List ℕ → Result (List Node) Full → Type 0
      Passes ws₂ r = (rows : List ℕ) (C : ℕ) → Ready rows C 0 ws₁ order sources variables ones_at_first → PassesPromise rows C ws₁ ws₂ r

      pub passes-full : (ws₂ : List ℕ) (f : Full) → Passes ws₂ (Err f) → (r : Result Node Full) → IsErr r → BuildPromise E n C ws₂ r
      passes-full ws₂ f p =
          let x = p rows C first-ready in
          too-small ws₂ (lacking-build empty (early-in x.0 x.1) (lacking-more vars.0 x.2))

      module _ (ws₂ : List ℕ) (table : List Node) (p : Passes ws₂ (Ok table)) where
        passed : (i : ℕ) × Ended rows C i ws₁ ws₂ table
        passed = p rows C first-ready

        abbrev i : ℕ
        i = passed.0

        pub last-shown : Shown ws₂ table (number order.back)
        last-shown = subst (Shown ws₂ table) (sym s.back) (record { given = pass_at rows C i; shown = passed.1.last })

        pub build-done : (ws₃ : List ℕ) (r : Result Node Full) → Summed ws₂ ws₃ table (number order.back) r → BuildPromise E n C ws₃ r
        build-done ws₃ r q = go r (made.made (pass_at rows C i) passed.1.last)
          where
            made : Summed ws₂ ws₃ table B r
            made = subst (λ S. Summed ws₂ ws₃ table S r) s.back q

            so_far : Added ws ws₂ (variables_of C ++ listed_before rows C i)
            so_far = added_more vars.0 passed.1.added

            go : (r : Result Node Full) → Makes ws₂ ws₃ (ors_of B (pass_at rows C i)) (any_of B (pass_at rows C i)) r → BuildPromise E n C ws₃ r
            go (Ok c) m =
                record {
                  table = all.table;
                  tree = code.tree;
                  stands = code.stands;
                  ordered = good.ordered;
                  under = subst (Under n) (sym same) (cycle-fine low comp (ones B)).under;
                  is = value;
                  need =
                      enough-need i passed.1.within passed.1.enough (used ws₃)
                      (subst (λ L. Need L (used ws₃)) (listed-are i) (holding-need (all.holds [] empty)));
                }
              where
                all : Added ws ws₃ (variables_of C ++ listed_before rows C i ++ ors_of B (pass_at rows C i))
                all = added_more so_far m.0

                code : Code ws₃ c.0 (any_of B (pass_at rows C i))
                code = m.1

                good : Good 0 code.tree
                good = stands_good all.table code.stands

                value : (K : ℕ) → eval code.tree K ≡ cycle E n C K
                value K = ap (λ g. g K) (code.is ∙ result-is i ∙ enough-cycle i passed.1.within passed.1.enough)

                same : code.tree ≡ cycle_t E n C
                same =
                    canon 0 0 code.tree (cycle_t E n C) good
                    (cycle-fine low comp (ones B)).good (λ K. value K ∙ sym (cycle-is low comp K))
            go (Err f) m =
                lacking-build empty
                (λ g k. enough-in i passed.1.within passed.1.enough g (subst (Of g) (listed-are i) k)) (lacking-more so_far m)
