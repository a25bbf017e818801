-- The components one after the other, by lowest flip-flop: a flip-flop that is the lowest of those around it leads a component, any other leads none; and who
-- goes from each found one to the next meets exactly the components, in order. Assumes nothing.
use mathlib.Core.Path.{◌≡◌, refl, sym, ap, ◌∙◌, subst}
use mathlib.Core.Logic.Iff
use mathlib.Core.Logic.{◌≢◌, inl, inr, ⊎_elim}
use mathlib.Core.Bool.{Bool, true, false}
use mathlib.Core.List.{List, [], ◌∷◌, ◌++◌, append_assoc, append-nil}
use mathlib.Core.Option.{none}
use Prim.Native.Nat.{ℕ, ◌+◌, ◌≤◌, ◌<◌}
use native.Mathlib.Omega.{arith}
use native.Mathlib.Decide.{ℕ_discrete, dec_lt}
use lib.Dec.{T, eqb, eqb→eq}
use lib.ListN.{length, get_or}
use borrow.Author.Tests.{eq-eqb}
use Rattle.std.specs.Prelude.{Option, Some, None}
use Rattle.masks.specs.Sets.{bit}
use Rattle.masks.specs.Walk.{IsLowestOf}
use Rattle.masks.specs.declared.Vertex.{Vertex}
use Rattle.masks.proofs.Bits.{same-members, bit-zero}
use Rattle.graphs.specs.Graph.{edge, Of}
use Rattle.graphs.specs.Components.{Component, Lowest, Ascending, Components}
use Rattle.graphs.specs.Refusals.{first, checks}
use Rattle.graphs.specs.Work.{Sound, Reaching, Around, Leads, NoneLeads, NextComponent}
use Rattle.graphs.proofs.Lists.{Of-cases, Of-right}
use Rattle.graphs.proofs.Walks.{source-lt}
use Rattle.graphs.proofs.Lowest.{lowest-one, ascending-rest, ascending-all}
use Rattle.graphs.proofs.Tables.{checks-passed}
use Rattle.graphs.proofs.Components.{EdgesBelow, component-lowest, component-at, components_of, edges-below, components-found}

-- ---- one flip-flop

module _ {E : ℕ → ℕ → Bool} {v : ℕ} (C : ℕ) (around : Around E v C) where
  pub leads_one : Lowest C v → Component E C × Lowest C v
  leads_one low = (record { member = v; on_loop = ((around v).0 low.holds).0; exact = around }, low)

  pub leads-none : (Lowest C v → ⊥) → (D : ℕ) → Component E D → Lowest D v → ⊥
  leads-none k D p l = k (subst (λ z. Lowest z v) (same-members D C (λ w. Iff.trans (component-at p v l.holds w) (Iff.symm (around w)))) l)

-- the set around one that leads is its component
pub led-around : {E : ℕ → ℕ → Bool} {v : ℕ} (C : ℕ) → Leads E v true → Around E v C → Component E C × Lowest C v
led-around {E} {v} C led around = (subst (Component E) same led.1, subst (λ z. Lowest z v) same led.2)
  where
    same : led.0 ≡ C
    same = same-members led.0 C (λ w. Iff.trans (component-at led.1 v led.2.holds w) (Iff.symm (around w)))

-- one that is on no loop leads none
pub unreached-none : {E : ℕ → ℕ → Bool} (reached : List ℕ) (v : ℕ) → Reaching E reached → bit (get_or reached v 0) v ≡ false
    → (D : ℕ) → Component E D → Lowest D v → ⊥
unreached-none reached v right e D p l = subst T e ((right v v).1 ((component-at p v l.holds v).0 l.holds).0)

-- the first member of a walk is the lowest
lowest-first : {C u t : ℕ} → IsLowestOf C u t → Lowest C u
lowest-first {C} {u} h = record { holds = h.member; least = λ w m. go w m (dec_lt w u) }
  where
    go : (w : ℕ) → T (bit C w) → Dec (w < u) → u ≤ w
    go w m (yes k) = absurd (h.lowest w k m)
    go w m (no k) =
        let k' : ¬ (w < u) = k in
        omega arith

-- as a test tells it
pub leads-test : {E : ℕ → ℕ → Bool} {v u t : ℕ} (C : ℕ) → Around E v C → IsLowestOf C u t → (x : Bool) → x ≡ eqb u v → Leads E v x
leads-test {v = v} {u = u} C around h true e =
    let led = leads_one C around (subst (Lowest C) (eqb→eq u v (subst T e tt)) (lowest-first h)) in
    (C, led.0, led.1)
leads-test {v = v} {u = u} C around h false e =
    leads-none C around (λ l. subst T (sym e) (subst T (sym (eq-eqb u v (lowest-one C u v (lowest-first h) l))) tt))

-- where it has no member
pub leads-empty : {E : ℕ → ℕ → Bool} {v : ℕ} (C : ℕ) → Around E v C → C ≡ 0 → Leads E v false
leads-empty {v = v} C around z = leads-none C around (λ l. subst T (ap (λ (m : ℕ). bit m v) z ∙ bit-zero v) l.holds)

-- one more that leads none
pub past_more : {E : ℕ → ℕ → Bool} {from v : ℕ} → ((u C : ℕ) → from ≤ u → u < v → Component E C → Lowest C u → ⊥)
    → ((C : ℕ) → Component E C → Lowest C v → ⊥) → (u C : ℕ) → from ≤ u → u < v + 1 → Component E C → Lowest C u → ⊥
past_more {E} {from} {v} h e u C k l p q = go (ℕ_discrete u v)
  where
    go : Dec (u ≡ v) → ⊥
    go (yes z) = e C p (subst (Lowest C) z q)
    go (no z) =
        let z' : u ≢ v = z in
        h u C k (omega arith) p q

-- ---- the next one as a number: n where there is none

abbrev pub at_or : ℕ → Option Vertex → ℕ
at_or n None = n
at_or n (Some v) = v.0

pub record NextAt (E : ℕ → ℕ → Bool) (n from r : ℕ) : Type 0 where
  pub bounded : r ≤ n
  pub found : r < n → (from ≤ r) × ((C : ℕ) × Component E C × Lowest C r)
  pub passed : NoneLeads E from r

pub next_at : {E : ℕ → ℕ → Bool} {n from : ℕ} (r : Option Vertex) → NextComponent E n from r → NextAt E n from (at_or n r)
next_at None h = record { bounded = omega arith; found = λ l. absurd (omega arith); passed = h }
next_at (Some v) h = record { bounded = omega (arith, h.inner.1); found = λ l. (h.inner.0, h.leads); passed = h.passed }

-- ---- all of them: Cs were met, and Ds are to come, from `from` on

pub record Met (E : ℕ → ℕ → Bool) (from : ℕ) (Cs Ds : List ℕ) : Type 0 where
  pub all : Components E (Cs ++ Ds)
  pub met : (C v : ℕ) → Of C Cs → Lowest C v → v < from
  pub coming : (C v : ℕ) → Of C Ds → Lowest C v → from ≤ v

-- before the first
pub met-none : {E : ℕ → ℕ → Bool} {Ds : List ℕ} → Components E Ds → Met E 0 [] Ds
met-none comps = record { all = comps; met = λ C v m l. absurd m; coming = λ C v m l. omega arith }

ascending-later : (Cs Ds : List ℕ) → Ascending (Cs ++ Ds) → Ascending Ds
ascending-later [] Ds a = a
ascending-later (C ∷ Cs) Ds a = ascending-later Cs Ds (ascending-rest C (Cs ++ Ds) a)

-- the set around the next one found is its component
pub found-around : {E : ℕ → ℕ → Bool} {n from v : ℕ} (C : ℕ) → NextAt E n from v → v < n → Around E v C → Component E C × Lowest C v
found-around C next l around = led-around C (next.found l).1 around

-- the next one found is the first of those to come
pub met-more : {E : ℕ → ℕ → Bool} {n from v C : ℕ} {Cs Ds : List ℕ} → NextAt E n from v → v < n → Component E C → Lowest C v → Met E from Cs Ds
    → (Es : List ℕ) × (Ds ≡ C ∷ Es) × Met E (v + 1) (Cs ++ (C ∷ [])) Es
met-more {E} {n} {from} {v} {C} {Cs} {Ds} next l comp low m = go Ds refl (⊎_elim (λ h. absurd (before h)) (λ h. h) (Of-cases C Cs Ds ((m.all.all C).1 comp)))
  where
    start : from ≤ v
    start = (next.found l).0

    before : Of C Cs → ⊥
    before h = omega (arith, start, m.met C v h low)

    part : (D : ℕ) → Of D Ds → Component E D
    part D h = (m.all.all D).0 (Of-right D Cs Ds h)

    go : (Es : List ℕ) → Ds ≡ Es → Of C Es → (Fs : List ℕ) × (Ds ≡ C ∷ Fs) × Met E (v + 1) (Cs ++ (C ∷ [])) Fs
    go [] e h = absurd h
    go (D ∷ Fs) e h = (Fs, e ∙ ap (λ z. z ∷ Fs) (sym first), step)
      where
        own : (G : ℕ) → Of G (D ∷ Fs) → Component E G
        own G k = part G (subst (Of G) (sym e) k)

        low-D : (d : ℕ) × Lowest D d
        low-D = component-lowest (own D (inl refl))

        above : (G : ℕ) → Of G Fs → (a b : ℕ) → Lowest D a → Lowest G b → a < b
        above =
            ascending-all D Fs (λ G k. component-lowest (own G (inr k)))
            (ascending-later Cs (D ∷ Fs) (subst (λ z. Ascending (Cs ++ z)) e m.all.ascending))

        first : C ≡ D
        first = ⊎_elim (λ q. q) later h
          where
            later : Of C Fs → C ≡ D
            later k =
                absurd
                (next.passed low-D.0 D (m.coming D low-D.0 (subst (Of D) (sym e) (inl refl)) low-D.1) (above C k low-D.0 v low-D.1 low)
                (own D (inl refl)) low-D.1)

        low-D-v : Lowest D v
        low-D-v = subst (λ z. Lowest z v) first low

        own-place : {G : ℕ} (w : ℕ) → Lowest G w → G ≡ C → w < v + 1
        own-place w q i = omega (arith, lowest-one C w v (subst (λ z. Lowest z w) i q) low)

        step : Met E (v + 1) (Cs ++ (C ∷ [])) Fs
        step =
            record {
              all = subst (Components E) (ap (λ z. Cs ++ z) (e ∙ ap (λ z. z ∷ Fs) (sym first)) ∙ sym (append_assoc Cs (C ∷ []) Fs)) m.all;
              met = λ G w k q. ⊎_elim (λ i. omega (arith, start, m.met G w i q)) (⊎_elim (own-place w q) (λ i. absurd i)) (Of-cases G Cs (C ∷ []) k);
              coming = λ G w k q. omega (arith, above G k v w low-D-v q);
            }

-- where none is found, all were met
pub met_all : {E : ℕ → ℕ → Bool} {n from v : ℕ} {Cs Ds : List ℕ} → EdgesBelow E n → NextAt E n from v → n ≤ v → Met E from Cs Ds
    → (Ds ≡ []) × Components E Cs
met_all {E} {n} {from} {v} {Cs} {Ds} low next l m = (none Ds refl, subst (Components E) (ap (λ z. Cs ++ z) (none Ds refl) ∙ append-nil Cs) m.all)
  where
    none : (Es : List ℕ) → Ds ≡ Es → Ds ≡ []
    none [] e = e
    none (D ∷ Es) e =
        let here : Of D Ds = subst (Of D) (sym e) (inl refl) in
        let p : Component E D = (m.all.all D).0 (Of-right D Cs Ds here) in
        let d = component-lowest p in
        let k : d.0 < n = source-lt (λ a b h. (low a b h).0) ((component-at p d.0 d.1.holds d.0).0 d.1.holds).0 in
        absurd (next.passed d.0 D (m.coming D d.0 here d.1) (omega arith) p d.1)

-- ---- the loop of a caller: v is what `next_component` gave, or n, Cs were met, and Ds are to come

pub record Walking (E : ℕ → ℕ → Bool) (n v : ℕ) (Cs Ds : List ℕ) : Type 0 where
  pub from : ℕ
  pub next : NextAt E n from v
  pub met : Met E from Cs Ds

pub walking-first : {E : ℕ → ℕ → Bool} {n : ℕ} {Ds : List ℕ} (r : Option Vertex) → Components E Ds → NextComponent E n 0 r → Walking E n (at_or n r) [] Ds
walking-first r comps x = record { from = 0; next = next_at r x; met = met-none comps }

-- the set around v is the first of those to come
pub walking-part : {E : ℕ → ℕ → Bool} {n v : ℕ} {Cs Ds : List ℕ} (C : ℕ) → Walking E n v Cs Ds → v < n → Around E v C → Component E C × Lowest C v
walking-part C w l around = found-around C w.next l around

pub walking-more : {E : ℕ → ℕ → Bool} {n v C : ℕ} {Cs Ds : List ℕ} (after : Option Vertex) → Walking E n v Cs Ds → v < n → Component E C → Lowest C v
    → NextComponent E n (v + 1) after → (Es : List ℕ) × (Ds ≡ C ∷ Es) × Walking E n (at_or n after) (Cs ++ (C ∷ [])) Es
walking-more {E} {n} {v} {C} {Cs} {Ds} after w l comp low x =
    let r = met-more w.next l comp low w.met in
    (r.0, r.1, record { from = v + 1; next = next_at after x; met = r.2 })

pub walking-all : {E : ℕ → ℕ → Bool} {n v : ℕ} {Cs Ds : List ℕ} → EdgesBelow E n → Walking E n v Cs Ds → n ≤ v → (Ds ≡ []) × Components E Cs
walking-all low w l = met_all low w.next l w.met

-- each turn goes up
pub walking-up : {E : ℕ → ℕ → Bool} {n v after : ℕ} → v < n → NextAt E n (v + 1) after → (v < after) × (after ≤ n)
walking-up {E} {n} {v} {after} l x = (go (dec_lt after n), x.bounded)
  where
    go : Dec (after < n) → v < after
    go (yes k) = omega (arith, (x.found k).0)
    go (no k) =
        let k' : ¬ (after < n) = k in
        omega arith

-- ---- of a block that passed the checks

pub sound-components : (rows : List ℕ) → Sound rows → Components (edge rows) (components_of rows)
sound-components rows s = components-found rows s.fit

pub sound-below : (rows : List ℕ) → Sound rows → EdgesBelow (edge rows) (length rows)
sound-below rows s = edges-below rows s.fit

pub sound-checked : (rows : List ℕ) (costs : ℕ) → first (checks rows costs) ≡ none → Sound rows
sound-checked rows costs e =
    let c = checks-passed rows costs e in
    record { few = c.few; fit = c.fit }
