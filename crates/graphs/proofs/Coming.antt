-- A walk over the components: the sets to come are passed over up to the next one that leads, which is the first of them, and all of them are the graph's
-- components; its turns are those of a loop over `next_component`. Assumes nothing.
use mathlib.Core.Path.{◌≡◌, refl, sym, ap, ◌∙◌, subst, subst₂}
use mathlib.Core.Logic.{◌≢◌}
use mathlib.Core.Bool.{Bool, true, false}
use mathlib.Core.List.{List, [], ◌∷◌, ◌++◌, append-nil}
use Prim.Native.Nat.{ℕ, zero, suc, ◌+◌, ◌-◌, ◌≤◌, ◌<◌}
use native.Mathlib.Omega.{arith}
use native.Mathlib.Decide.{ℕ_discrete, dec_lt}
use lib.Dec.{T}
use lib.ListN.{length, get_or}
use Rattle.std.specs.Prelude.{Option, Some, None}
use Rattle.masks.specs.Sets.{bit}
use Rattle.masks.specs.declared.Vertex.{Vertex}
use Rattle.masks.proofs.Tests.{T_true, T_false}
use Rattle.graphs.specs.Graph.{edge}
use Rattle.graphs.specs.Components.{Component, Components, Lowest}
use Rattle.graphs.specs.Coming.{around, leads, add, leading}
use Rattle.graphs.specs.Work.{Sound, Reaching, Around, Leads, NoneLeads, NextComponent, IsNextComponent}
use Rattle.graphs.proofs.Components.{EdgesBelow, leads-iff, around-exact, leading_components}
use Rattle.graphs.proofs.InOrder.{leads_one, leads-none, led-around, sound-below}
use Rattle.graphs.proofs.InOrder.{at_or, met-more, Walking, walking-first, walking-part, walking-more, walking-all}

module _ (rows reached : List ℕ) (sound : Sound rows) (right : Reaching (edge rows) reached) where
  abbrev E : ℕ → ℕ → Bool
  E = edge rows

  abbrev n : ℕ
  n = length rows

  abbrev reach : ℕ → ℕ → Bool
  reach u w = bit (get_or reached u 0) w

  low : EdgesBelow E n
  low = sound-below rows sound

  pub all-coming : Components E (leading n reach (n - 0) 0)
  all-coming =
      let whole : n ≡ n - 0 = omega arith in
      subst (λ (k : ℕ). Components E (leading n reach k 0)) whole (leading_components E n low reach right)

  -- ---- the sets around those that lead, with one flip-flop more

  add-append : (x : Bool) (C : ℕ) (Cs Ds : List ℕ) → add x C (Cs ++ Ds) ≡ add x C Cs ++ Ds
  add-append true C Cs Ds = refl
  add-append false C Cs Ds = refl

  -- one more at the end
  leading-last : (k v : ℕ) → leading n reach (suc k) v ≡ leading n reach k v ++ add (leads n reach (v + k)) (around n reach (v + k)) []
  unfolding leading
  leading-last zero v =
      let same : v ≡ v + 0 = omega arith in
      cc
  leading-last (suc k) v =
      let same : suc v + k ≡ v + suc k = omega arith in
      let later = leading-last k (suc v) in
      cc (add-append (leads n reach v) (around n reach v) (leading n reach k (suc v)) (add (leads n reach (v + suc k)) (around n reach (v + suc k)) []))

  -- those below v, and v
  met-last : (v : ℕ) (x : Bool) → leads n reach v ≡ x → leading n reach (suc v) 0 ≡ leading n reach v 0 ++ add x (around n reach v) []
  met-last v x e =
      let same : 0 + v ≡ v = omega arith in
      cc (leading-last v 0)

  -- v, and those above it
  coming-first : (v : ℕ) (x : Bool) → v < n → leads n reach v ≡ x
      → leading n reach (n - v) v ≡ add x (around n reach v) (leading n reach (n - suc v) (suc v))
  unfolding leading
  coming-first v x l e =
      let d : n - v ≡ suc (n - suc v) = omega (arith, l) in
      cc

  -- ---- what the test of v tells, yes or no, and what makes it tell so

  test-yes : (v : ℕ) → leads n reach v ≡ true → Component E (around n reach v) × Lowest (around n reach v) v
  test-yes v e = leads_one (around n reach v) (around-exact E n low reach right v) ((leads-iff n reach v).0 (subst T (sym e) tt))

  yes-test : (v : ℕ) → Leads E v true → leads n reach v ≡ true
  yes-test v led = T_true (leads n reach v) ((leads-iff n reach v).1 (led-around (around n reach v) led (around-exact E n low reach right v)).1)

  test-no : (v : ℕ) → leads n reach v ≡ false → Leads E v false
  test-no v e = leads-none (around n reach v) (around-exact E n low reach right v) (λ l. subst T e ((leads-iff n reach v).1 l))

  no-test : (v : ℕ) → Leads E v false → leads n reach v ≡ false
  no-test v none = T_false (leads n reach v) (λ t. let led = test-yes v (T_true (leads n reach v) t) in none (around n reach v) led.0 led.1)

  -- ---- the turns of the loop

  -- from one that leads none the next is the same as from the one after it
  earlier-none : (v m : ℕ) → leads n reach v ≡ false → NoneLeads E (suc v) m → NoneLeads E v m
  earlier-none v m e none u C i j p q = go (ℕ_discrete u v)
    where
      go : Dec (u ≡ v) → ⊥
      go (yes z) = test-no v e C p (subst (Lowest C) z q)
      go (no z) =
          let z' : u ≢ v = z in
          none u C (omega arith) j p q

  earlier : (v : ℕ) (r : Option Vertex) → leads n reach v ≡ false → NextComponent E n (suc v) r → NextComponent E n v r
  earlier v None e next = earlier-none v n e next
  earlier v (Some w) e next =
      record { inner = (omega (arith, next.inner.0), next.inner.1); leads = next.leads; passed = earlier-none v w.0 e next.passed }

  -- what the loop knows at `from`
  abbrev Turn : ℕ → Type 0
  Turn from =
      (r : Option Vertex) → NextComponent E n from r → Walking E n (at_or n r) (leading n reach from 0) (leading n reach (n - from) from)

  turn : (v : ℕ) (x : Bool) → v < n → leads n reach v ≡ x → Turn v → Turn (suc v)
  turn v true l e before r next =
      let led = test-yes v e in
      let here : IsNextComponent E n v v =
      record { inner = (omega arith, l); leads = (around n reach v, led.0, led.1); passed = λ u C i j p q. absurd (omega arith) } in
      let up : suc v ≡ v + 1 = omega arith in
      let more = walking-more r (before (Some (record { 0 = v })) here) l led.0 led.1 (subst (λ (z : ℕ). NextComponent E n z r) up next) in
      let first = coming-first v true l e in
      let rest : more.0 ≡ leading n reach (n - suc v) (suc v) = cc in
      subst₂ (Walking E n (at_or n r)) (sym (met-last v true e)) rest more.2
  turn v false l e before r next =
      subst₂ (Walking E n (at_or n r)) (sym (met-last v false e ∙ append-nil (leading n reach v 0))) (coming-first v false l e)
      (before r (earlier v r e next))

  -- The iterator's turns are those of a loop over `next_component`: where it stands, those that lead below `from` were met, and those from it on are to come.
  pub coming-walking : (from : ℕ) → from ≤ n → (r : Option Vertex) → NextComponent E n from r
      → Walking E n (at_or n r) (leading n reach from 0) (leading n reach (n - from) from)
  unfolding leading
  coming-walking zero l r next = walking-first r all-coming next
  coming-walking (suc v) l r next = turn v (leads n reach v) (omega (arith, l)) refl (coming-walking v (omega (arith, l))) r next

  -- ---- one turn of the iterator

  -- those that lead none are no sets to come
  passed : (k from v : ℕ) → v ≡ from + k → v ≤ n → NoneLeads E from v → leading n reach (n - from) from ≡ leading n reach (n - v) v
  passed zero from v e l none =
      let q : from ≡ v = omega (arith, e) in
      cc
  passed (suc k) from v e l none =
      coming-first from false (omega (arith, e, l)) (no-test from (λ C p q. none from C (omega arith) (omega (arith, e)) p q))
      ∙ passed k (suc from) v (omega (arith, e)) l (λ u C i j p q. none u C (omega arith) j p q)

  module _ (m from : ℕ) (is_len : m ≡ n) where
    pub coming-none : NoneLeads E from m → leading n reach (n - from) from ≡ []
    unfolding leading
    coming-none none = go (dec_lt n from)
      where
        empty : (k v : ℕ) → k ≡ 0 → leading n reach k v ≡ []
        empty k v e = ap (λ (z : ℕ). leading n reach z v) e

        go : Dec (n < from) → leading n reach (n - from) from ≡ []
        go (yes l) = empty (n - from) from (omega (arith, l))
        go (no l) =
            let l' : ¬ (n < from) = l in
            (walking-all low (coming-walking from (omega arith) None (subst (NoneLeads E from) is_len none)) (omega arith)).0

    module _ (v : ℕ) (next : IsNextComponent E m from v) (C : ℕ) (is_around : Around E v C) where
      below : v < n
      below = omega (arith, next.inner, is_len)

      walking : Walking E n v (leading n reach from 0) (leading n reach (n - from) from)
      walking =
          coming-walking from (omega (arith, next.inner, is_len)) (Some (record { 0 = v })) (subst (λ (z : ℕ). IsNextComponent E z from v) is_len next)

      pub coming-component : Component E C
      coming-component = (walking-part C walking below is_around).0

      pub coming-lowest : Lowest C v
      coming-lowest = (walking-part C walking below is_around).1

      pub coming-next : leading n reach (n - from) from ≡ C ∷ leading n reach (n - (v + 1)) (v + 1)
      coming-next =
          let more = met-more walking.next below coming-component coming-lowest walking.met in
          let past = passed (v - from) from v (omega (arith, next.inner)) (omega (arith, below)) next.passed in
          let first = coming-first v true below (yes-test v next.leads) in
          let up : suc v ≡ v + 1 = omega arith in
          cc
