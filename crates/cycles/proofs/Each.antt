-- Those below n that pass a test: whether there is one, and the list of them, which has each once, ascending, and as many as the set has members. Shown by
-- induction on n. Assumes nothing.
use mathlib.Core.Path.{◌≡◌, refl, sym, ap, ap₂, ◌∙◌, subst}
use mathlib.Core.Logic.{◌≢◌, inl, ⊎_elim, ◌↔◌}
use mathlib.Core.Bool.{Bool, true, false, ◌||◌}
use mathlib.Core.List.{List, [], ◌∷◌, ◌++◌}
use Prim.Native.Nat.{ℕ, zero, suc, ◌+◌, ◌*◌, ◌/◌, ◌%◌, ◌≤◌, ◌<◌, ◌^◌}
use native.Mathlib.Omega.{arith}
use native.Mathlib.Decide.{ℕ_discrete, dec_lt}
use native.Mathlib.Nat.{pow-suc}
use lib.Count.{ones, ones_step, ones_cat}
use lib.Dec.{T, eqb→eq}
use lib.ListN.{length, length-append}
use Rattle.masks.specs.Sets.{bit, pick, cut}
use Rattle.masks.proofs.Tests.{T-or, or_l, or_r}
use Rattle.masks.proofs.Bits.{bit-low, bit-suc, bit_high}
use Rattle.masks.proofs.PutCut.{cut-add, cut-other}
use Rattle.graphs.specs.Graph.{Of, Differ}
use Rattle.masks.proofs.Those.{members-lt}
use Rattle.graphs.proofs.Lists.{Of-left, Of-right, Of-cases, differ-le}
use Rattle.cycles.specs.Passes.{any, each}

-- ---- one that passes

pub any-from : (n : ℕ) (p : ℕ → Bool) → T (any n p) → (u : ℕ) × (u < n) × T (p u)
unfolding any
any-from zero p t = absurd t
any-from (suc n) p t =
    ⊎_elim (λ s. let r = any-from n p s in let k : r.0 < n = r.1 in (r.0, omega arith, r.2)) (λ s. (n, omega arith, s)) (T-or (any n p) (p n) t)

pub any-to : (n : ℕ) (p : ℕ → Bool) (u : ℕ) → u < n → T (p u) → T (any n p)
unfolding any
any-to zero p u l t = absurd (omega arith)
any-to (suc n) p u l t = go (ℕ_discrete u n) (λ k. any-to n p u k t)
  where
    go : Dec (u ≡ n) → (u < n → T (any n p)) → T (any n p || p n)
    go (yes e) ih = or_r (any n p) (p n) (subst (λ x. T (p x)) e t)
    go (no k) ih =
        let k' : u ≢ n = k in
        or_l (any n p) (p n) (ih (omega arith))

pub any-iff : (n : ℕ) (p : ℕ → Bool) → T (any n p) ↔ ((u : ℕ) × (u < n) × T (p u))
any-iff n p = (any-from n p, λ r. any-to n p r.0 r.1 r.2)

pub any-ext : (n : ℕ) (p q : ℕ → Bool) → ((u : ℕ) → u < n → p u ≡ q u) → any n p ≡ any n q
unfolding any
any-ext zero p q h = refl
any-ext (suc n) p q h = ap₂ ◌||◌ (any-ext n p q (λ u l. h u (omega arith))) (h n (omega arith))

-- ---- the list of them

pub each_from : (n : ℕ) (p : ℕ → Bool) (v : ℕ) → Of v (each n p) → (v < n) × T (p v)
unfolding each
each_from zero p v m = absurd m
each_from (suc n) p v m = go (p n) refl m (each_from n p v)
  where
    go : (x : Bool) → p n ≡ x → Of v (each n p ++ pick x (n ∷ []) []) → (Of v (each n p) → (v < n) × T (p v)) → (v < suc n) × T (p v)
    go true e m ih =
        ⊎_elim (λ k. let r = ih k in let l : v < n = r.0 in (omega arith, r.1))
        (⊎_elim (λ q. (omega arith, subst (λ z. T (p z)) (sym q) (subst T (sym e) tt))) (λ k. absurd k)) (Of-cases v (each n p) (n ∷ []) m)
    go false e m ih =
        ⊎_elim (λ k. let r = ih k in let l : v < n = r.0 in (omega arith, r.1)) (λ k. absurd k) (Of-cases v (each n p) [] m)

pub each_to : (n : ℕ) (p : ℕ → Bool) (v : ℕ) → v < n → T (p v) → Of v (each n p)
unfolding each
each_to zero p v l t = absurd (omega arith)
each_to (suc n) p v l t = go (ℕ_discrete v n) (λ k. each_to n p v k t)
  where
    one : (x : Bool) → T x → Of n (pick x (n ∷ []) [])
    one true t = inl refl
    one false t = absurd t

    go : Dec (v ≡ n) → (v < n → Of v (each n p)) → Of v (each n p ++ pick (p n) (n ∷ []) [])
    go (yes e) ih =
        Of-right v (each n p) (pick (p n) (n ∷ []) []) (subst (λ z. Of z (pick (p n) (n ∷ []) [])) (sym e) (one (p n) (subst (λ z. T (p z)) e t)))
    go (no k) ih =
        let k' : v ≢ n = k in
        Of-left v (each n p) (pick (p n) (n ∷ []) []) (ih (omega arith))

pub each-iff : (n : ℕ) (p : ℕ → Bool) (v : ℕ) → Of v (each n p) ↔ ((v < n) × T (p v))
each-iff n p v = (each_from n p v, λ r. each_to n p v r.0 r.1)

pub each-ext : (n : ℕ) (p q : ℕ → Bool) → ((u : ℕ) → u < n → p u ≡ q u) → each n p ≡ each n q
unfolding each
each-ext zero p q h = refl
each-ext (suc n) p q h = ap₂ ◌++◌ (each-ext n p q (λ u l. h u (omega arith))) (ap (λ x. pick x (n ∷ []) []) (h n (omega arith)))

-- ---- how many

-- the members of a set of flip-flops below n
pub each-ones : (n m : ℕ) → m < 2 ^ n → length (each n (bit m)) ≡ ones m
unfolding each ones
each-ones zero m l = let e : m ≡ 0 = omega arith in rw e refl
each-ones (suc n) m l = length-append (each n (bit m)) (pick (bit m n) (n ∷ []) []) ∙ go (bit m n) refl (each-ones n)
  where
    -- without n it is one less
    less : ℕ
    less = cut m n

    with-n : bit m n ≡ true → length (each n (bit less)) ≡ ones less → length (each n (bit m)) + 1 ≡ ones m
    with-n e ih =
        let sum : less + 2 ^ n ≡ m = cut-add m n e in
        let lt : less < 2 ^ n = omega (arith, pow-suc 2 n) in
        let one : 1 * 2 ^ n + less ≡ m = omega arith in
        let count : ones (1 * 2 ^ n + less) ≡ 1 + ones less = ones_cat n 1 less lt in
        let same : length (each n (bit m)) ≡ length (each n (bit less)) =
        ap length (each-ext n (bit m) (bit less) (λ u k. sym (cut-other m n u (λ q. let q' : u ≡ n = q in omega arith)))) in
        omega (arith, sym (ap ones one) ∙ count)

    go : (x : Bool) → bit m n ≡ x → ((a : ℕ) → a < 2 ^ n → length (each n (bit a)) ≡ ones a)
        → length (each n (bit m)) + length (pick x (n ∷ []) []) ≡ ones m
    go true e ih = with-n e (ih less (omega (arith, cut-add m n e, pow-suc 2 n)))
    go false e ih = omega (arith, ih m (members-lt n m below))
      where
        below : (v : ℕ) → T (bit m v) → v < n
        below v t = at (ℕ_discrete v n) (dec_lt v n)
          where
            at : Dec (v ≡ n) → Dec (v < n) → v < n
            at (yes q) d = absurd (subst T (ap (bit m) q ∙ e) t)
            at (no q) (yes k) = k
            at (no q) (no k) =
                let q' : v ≢ n = q in
                let k' : ¬ (v < n) = k in
                absurd (subst T (bit_high (suc n) m v l (omega arith)) t)

-- a set with a member
pub ones-some : (m v : ℕ) → T (bit m v) → 1 ≤ ones m
ones-some m zero t =
    let e : m % 2 ≡ 1 = eqb→eq (m % 2) 1 (subst T (bit-low m) t) in
    omega (arith, ones_step m)
ones-some m (suc v) t =
    let k : 1 ≤ ones (m / 2) = ones-some (m / 2) v (subst T (bit-suc m v) t) in
    omega (arith, ones_step m)

-- different flip-flops below n: no more than n
all-length : (n : ℕ) → length (each n (λ v. true)) ≡ n
unfolding each
all-length zero = refl
all-length (suc n) = omega (arith, length-append (each n (λ v. true)) (n ∷ []), all-length n)

pub differ-below : (n : ℕ) (xs : List ℕ) → Differ xs → ((v : ℕ) → Of v xs → v < n) → length xs ≤ n
differ-below n xs d h = omega (arith, all-length n, differ-le xs (each n (λ v. true)) d (λ v o. each_to n (λ v. true) v (h v o) tt))
