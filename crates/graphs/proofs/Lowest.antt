-- The lowest flip-flop of a set, and lists of sets by lowest flip-flop: each set that holds one has a lowest, and two such lists with the same members are
-- equal. Assumes nothing.
use mathlib.Core.Path.{◌≡◌, refl, sym, ap₂, ◌∙◌, subst}
use mathlib.Core.Logic.{◌≢◌, ◌⊎◌, inl, inr, ⊎_elim, ◌↔◌}
use mathlib.Core.List.{List, [], ◌∷◌}
use Prim.Native.Nat.{ℕ, zero, suc, ◌≤◌, ◌<◌}
use native.Mathlib.Omega.{arith}
use native.Mathlib.Decide.{ℕ_discrete, dec_lt}
use lib.Dec.{T}
use Rattle.masks.specs.Sets.{bit}
use Rattle.masks.proofs.Tests.{T?}
use Rattle.graphs.specs.Graph.{Of}
use Rattle.graphs.specs.Components.{Lowest, Ascending}

-- ---- the lowest flip-flop of a set

pub lowest-of : (C v : ℕ) → T (bit C v) → (w : ℕ) × Lowest C w
lowest-of C v t = ⊎_elim (λ none. absurd (none v (omega arith) t)) (λ r. r) (search-to (suc v))
  where
    search-to : (k : ℕ) → ((w : ℕ) → w < k → T (bit C w) → ⊥) ⊎ ((w : ℕ) × Lowest C w)
    search-to zero = inl (λ w l. absurd (omega arith))
    search-to (suc k) = ⊎_elim (λ none. at none (T? (bit C k))) (λ r. inr r) (search-to k)
      where
        at : ((w : ℕ) → w < k → T (bit C w) → ⊥) → Dec (T (bit C k)) → ((w : ℕ) → w < suc k → T (bit C w) → ⊥) ⊎ ((w : ℕ) × Lowest C w)
        at none (yes h) = inr (k, record { holds = h; least = λ w t. above w t (dec_lt w k) })
          where
            above : (w : ℕ) → T (bit C w) → Dec (w < k) → k ≤ w
            above w t (yes l) = absurd (none w l t)
            above w t (no j) =
                let j' : ¬ (w < k) = j in
                omega arith
        at none (no h) = inl (λ w l t. below w t (ℕ_discrete w k) l)
          where
            below : (w : ℕ) → T (bit C w) → Dec (w ≡ k) → w < suc k → ⊥
            below w t (yes e) l = h (subst (λ z. T (bit C z)) e t)
            below w t (no j) l =
                let j' : w ≢ k = j in
                none w (omega arith) t

pub lowest-one : (C v w : ℕ) → Lowest C v → Lowest C w → v ≡ w
lowest-one C v w p q = omega (arith, p.least w q.holds, q.least v p.holds)

-- ---- lists by lowest flip-flop

pub ascending-cons : (C : ℕ) (Cs : List ℕ) → ((D : ℕ) → Of D Cs → (v w : ℕ) → Lowest C v → Lowest D w → v < w) → Ascending Cs → Ascending (C ∷ Cs)
ascending-cons C [] h a = tt
ascending-cons C (D ∷ Cs) h a = (h D (inl refl), a)

pub ascending-rest : (C : ℕ) (Cs : List ℕ) → Ascending (C ∷ Cs) → Ascending Cs
ascending-rest C [] a = tt
ascending-rest C (D ∷ Cs) a = a.1

-- the first is below all the others, where each has a lowest flip-flop
pub ascending-all : (C : ℕ) (Cs : List ℕ) → ((D : ℕ) → Of D Cs → (v : ℕ) × Lowest D v) → Ascending (C ∷ Cs)
    → (D : ℕ) → Of D Cs → (v w : ℕ) → Lowest C v → Lowest D w → v < w
ascending-all C [] some a D h v w p q = absurd h
ascending-all C (B ∷ Cs) some a D (inl e) v w p q = a.0 v w p (subst (λ z. Lowest z w) e q)
ascending-all C (B ∷ Cs) some a D (inr m) v w p q =
    let b = some B (inl refl) in
    let x : v < b.0 = a.0 v b.0 p b.1 in
    let y : b.0 < w = ascending-all B Cs (λ A k. some A (inr k)) a.1 D m b.0 w b.1 q in
    omega arith

-- two with the same members are equal
pub ascending-unique : (Cs Ds : List ℕ) → ((C : ℕ) → Of C Cs → (v : ℕ) × Lowest C v) → Ascending Cs → Ascending Ds → ((C : ℕ) → Of C Cs ↔ Of C Ds) → Cs ≡ Ds
ascending-unique [] [] some a b h = refl
ascending-unique [] (D ∷ Ds) some a b h = absurd ((h D).1 (inl refl))
ascending-unique (C ∷ Cs) [] some a b h = absurd ((h C).0 (inl refl))
ascending-unique (C ∷ Cs) (D ∷ Ds) some a b h =
    ap₂ ◌∷◌ first (ascending-unique Cs Ds (λ B m. some B (inr m)) (ascending-rest C Cs a) (ascending-rest D Ds b) (λ B. (forth B, back B)))
  where
    some' : (B : ℕ) → Of B (D ∷ Ds) → (v : ℕ) × Lowest B v
    some' B m = some B ((h B).1 m)

    above-C : (B : ℕ) → Of B Cs → (v w : ℕ) → Lowest C v → Lowest B w → v < w
    above-C = ascending-all C Cs (λ B m. some B (inr m)) a

    above-D : (B : ℕ) → Of B Ds → (v w : ℕ) → Lowest D v → Lowest B w → v < w
    above-D = ascending-all D Ds (λ B m. some' B (inr m)) b

    first : C ≡ D
    first = go ((h C).0 (inl refl)) ((h D).1 (inl refl))
      where
        go : (C ≡ D) ⊎ Of C Ds → (D ≡ C) ⊎ Of D Cs → C ≡ D
        go (inl e) d = e
        go (inr m) (inl e) = sym e
        go (inr m) (inr k) =
            let p = some C (inl refl) in
            let q = some' D (inl refl) in
            absurd (omega (arith, above-D C m q.0 p.0 q.1 p.1, above-C D k p.0 q.0 p.1 q.1))

    -- the first is not among the others
    not-C : (B : ℕ) → Of B Cs → B ≢ C
    not-C B m e =
        let p = some C (inl refl) in
        omega (arith, above-C B m p.0 p.0 p.1 (subst (λ z. Lowest z p.0) (sym e) p.1))

    not-D : (B : ℕ) → Of B Ds → B ≢ D
    not-D B m e =
        let p = some' D (inl refl) in
        omega (arith, above-D B m p.0 p.0 p.1 (subst (λ z. Lowest z p.0) (sym e) p.1))

    forth : (B : ℕ) → Of B Cs → Of B Ds
    forth B m = ⊎_elim (λ e. absurd (not-C B m (e ∙ sym first))) (λ k. k) ((h B).0 (inr m))

    back : (B : ℕ) → Of B Ds → Of B Cs
    back B m = ⊎_elim (λ e. absurd (not-D B m (e ∙ first))) (λ k. k) ((h B).1 (inr m))
