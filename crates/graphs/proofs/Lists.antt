-- Members of lists: how many different ones there can be, and those of two lists together and of an image. Shown by induction on the list. Assumes nothing.
use mathlib.Core.Path.{◌≡◌, refl, sym, ap, ap₂, ◌∙◌, subst}
use mathlib.Core.Logic.{◌⊎◌, inl, inr, ⊎_elim}
use mathlib.Core.List.{List, [], ◌∷◌, ◌++◌, map}
use Prim.Native.Nat.{ℕ, zero, suc, ◌≤◌, ◌<◌}
use native.Mathlib.Omega.{arith}
use native.Mathlib.Decide.{ℕ_discrete}
use lib.ListN.{length, get_or, set, replicate}
use Rattle.graphs.specs.Graph.{Of, Differ}

-- ---- different members, counted

-- the list without the place of one member
pub record Taken {A : Type 0} (x : A) (ys : List A) : Type 0 where
  pub others : List A
  pub fewer : length ys ≡ suc (length others)
  pub still : (y : A) → Of y ys → (y ≡ x) ⊎ Of y others

pub take_out : {A : Type 0} (x : A) (ys : List A) → Of x ys → Taken x ys
take_out x [] h = absurd h
take_out x (y ∷ ys) (inl e) = record { others = ys; fewer = refl; still = λ z. ⊎_elim (λ f. inl (f ∙ sym e)) (λ m. inr m) }
take_out x (y ∷ ys) (inr h) =
    let t : Taken x ys = take_out x ys h in
    record {
      others = y ∷ t.others;
      fewer = ap suc t.fewer;
      still = λ z. ⊎_elim (λ f. inr (inl f)) (λ m. ⊎_elim (λ f. inl f) (λ k. inr (inr k)) (t.still z m));
    }

-- different members, each in another list: no more of them than that one has
pub differ-le : {A : Type 0} (xs ys : List A) → Differ xs → ((x : A) → Of x xs → Of x ys) → length xs ≤ length ys
differ-le [] ys d h = omega arith
differ-le (x ∷ xs) ys d h =
    let t : Taken x ys = take_out x ys (h x (inl refl)) in
    let k : length xs ≤ length t.others = differ-le xs t.others d.1
    (λ y m. ⊎_elim (λ e. absurd (d.0 (subst (λ z. Of z xs) e m))) (λ r. r) (t.still y (h y (inr m)))) in
    omega (arith, t.fewer)

-- ---- members of two lists together, and of an image

pub Of-left : {A : Type 0} (x : A) (xs ys : List A) → Of x xs → Of x (xs ++ ys)
Of-left x [] ys h = absurd h
Of-left x (y ∷ xs) ys (inl e) = inl e
Of-left x (y ∷ xs) ys (inr h) = inr (Of-left x xs ys h)

pub Of-right : {A : Type 0} (x : A) (xs ys : List A) → Of x ys → Of x (xs ++ ys)
Of-right x [] ys h = h
Of-right x (y ∷ xs) ys h = inr (Of-right x xs ys h)

pub Of-cases : {A : Type 0} (x : A) (xs ys : List A) → Of x (xs ++ ys) → Of x xs ⊎ Of x ys
Of-cases x [] ys h = inr h
Of-cases x (y ∷ xs) ys (inl e) = inl (inl e)
Of-cases x (y ∷ xs) ys (inr h) = ⊎_elim (λ k. inl (inr k)) (λ k. inr k) (Of-cases x xs ys h)

pub Of-map : {A B : Type 0} (f : A → B) (x : A) (xs : List A) → Of x xs → Of (f x) (map f xs)
Of-map f x [] h = absurd h
Of-map f x (y ∷ xs) (inl e) = inl (ap f e)
Of-map f x (y ∷ xs) (inr h) = inr (Of-map f x xs h)

pub Of-from : {A B : Type 0} (f : A → B) (y : B) (xs : List A) → Of y (map f xs) → (x : A) × Of x xs × (y ≡ f x)
Of-from f y [] h = absurd h
Of-from f y (x ∷ xs) (inl e) = (x, inl refl, e)
Of-from f y (x ∷ xs) (inr h) =
    let r = Of-from f y xs h in
    (r.0, inr r.1, r.2)

-- different members have different images, where f takes no two of them to one
pub differ-map : {A B : Type 0} (f : A → B) (xs : List A) → ((x y : A) → Of x xs → Of y xs → f x ≡ f y → x ≡ y) → Differ xs → Differ (map f xs)
differ-map f [] inj d = tt
differ-map f (x ∷ xs) inj d = (
  (λ h. let r = Of-from f (f x) xs h in d.0 (subst (λ z. Of z xs) (sym (inj x r.0 (inl refl) (inr r.1) r.2)) r.1)),
  differ-map f xs (λ y z p q. inj y z (inr p) (inr q)) d.1,
)

-- a row that is set to 0 is 0, also where there is none
pub set-zero : (rows : List ℕ) (i : ℕ) → get_or (set rows i 0) i 0 ≡ 0
set-zero [] i = refl
set-zero (r ∷ rows) zero = refl
set-zero (r ∷ rows) (suc i) = set-zero rows i

-- a row of a list that is the same all over, and past its end
pub all_alike : {A : Type 0} (a : A) (k i : ℕ) → get_or (replicate k a) i a ≡ a
all_alike a zero i = refl
all_alike a (suc k) zero = refl
all_alike a (suc k) (suc i) = all_alike a k i

pub map_row : (f : ℕ → ℕ) → f 0 ≡ 0 → (rows : List ℕ) (i : ℕ) → get_or (map f rows) i 0 ≡ f (get_or rows i 0)
map_row f e [] i = sym e
map_row f e (r ∷ rows) zero = refl
map_row f e (r ∷ rows) (suc i) = map_row f e rows i

pub of? : (x : ℕ) (ys : List ℕ) → Dec (Of x ys)
of? x [] = no (λ h. h)
of? x (y ∷ ys) = go (ℕ_discrete x y) (of? x ys)
  where
    go : Dec (x ≡ y) → Dec (Of x ys) → Dec ((x ≡ y) ⊎ Of x ys)
    go (yes e) d = yes (inl e)
    go (no k) (yes h) = yes (inr h)
    go (no k) (no h) = no (⊎_elim k h)

pub of_at : (x : ℕ) (xs : List ℕ) → Of x xs → (i : ℕ) × (i < length xs) × (get_or xs i 0 ≡ x)
of_at x [] h = absurd h
of_at x (y ∷ xs) (inl e) = (0, omega arith, sym e)
of_at x (y ∷ xs) (inr h) =
    let r = of_at x xs h in
    let l : r.0 < length xs = r.1 in
    (suc r.0, omega arith, r.2)

pub at_of : (xs : List ℕ) (i : ℕ) → i < length xs → Of (get_or xs i 0) xs
at_of [] i l = absurd (omega arith)
at_of (x ∷ xs) zero l = inl refl
at_of (x ∷ xs) (suc i) l = inr (at_of xs i (omega arith))

-- different members stand at different places
pub differ-at : (xs : List ℕ) → Differ xs → (i j : ℕ) → i < length xs → j < length xs → get_or xs i 0 ≡ get_or xs j 0 → i ≡ j
differ-at [] d i j l k e = absurd (omega arith)
differ-at (x ∷ xs) d zero zero l k e = refl
differ-at (x ∷ xs) d zero (suc j) l k e = absurd (d.0 (subst (λ z. Of z xs) (sym e) (at_of xs j (omega arith))))
differ-at (x ∷ xs) d (suc i) zero l k e = absurd (d.0 (subst (λ z. Of z xs) e (at_of xs i (omega arith))))
differ-at (x ∷ xs) d (suc i) (suc j) l k e = ap suc (differ-at xs d.1 i j (omega arith) (omega arith) e)

-- one more at the end
pub differ-snoc : {A : Type 0} (xs : List A) (v : A) → Differ xs → (Of v xs → ⊥) → Differ (xs ++ (v ∷ []))
differ-snoc [] v d h = ((λ z. z), tt)
differ-snoc (x ∷ xs) v d h =
    ((λ m. ⊎_elim d.0 (⊎_elim (λ e. h (inl (sym e))) (λ z. z)) (Of-cases x xs (v ∷ []) m)), differ-snoc xs v d.1 (λ m. h (inr m)))

pub map-append : {A D : Type 0} (f : A → D) (xs ys : List A) → map f (xs ++ ys) ≡ map f xs ++ map f ys
map-append f [] ys = refl
map-append f (x ∷ xs) ys = ap (λ zs. f x ∷ zs) (map-append f xs ys)

pub map-ext : {A D : Type 0} (f g : A → D) (xs : List A) → ((x : A) → Of x xs → f x ≡ g x) → map f xs ≡ map g xs
map-ext f g [] h = refl
map-ext f g (x ∷ xs) h = ap₂ ◌∷◌ (h x (inl refl)) (map-ext f g xs (λ y m. h y (inr m)))
