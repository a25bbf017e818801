-- The passes on trees: the tree of each Fi(v), made once a pass, from the last that the search ended to the first, with the trees of the listed functions
-- and of the result. Their functions are those of the definitions. Shown by induction on the list and on the number of passes. Assumes nothing.
use mathlib.Core.Path.{◌≡◌, refl, sym, ap, ap₂, ◌∙◌, subst, fun_ext}
use mathlib.Core.Logic.{◌≢◌, inl, inr, ⊎_elim, ◌↔◌}
use mathlib.Core.Bool.{Bool, true, false, not, ◌&&◌, ◌||◌, or_assoc, or-false}
use mathlib.Core.List.{List, [], ◌∷◌, ◌++◌, map, map-map}
use Prim.Native.Nat.{ℕ, zero, suc, ◌≤◌, ◌<◌}
use native.Mathlib.Omega.{arith}
use native.Mathlib.Decide.{ℕ_discrete, dec_lt}
use lib.Dec.{T}
use lib.ListN.{length, get_or, set, replicate, length-append, length-set, length-replicate, get_or-append, get_or-eq_default}
use lib.Seq.{get_or-append_seam, get_or-set_same, get_or-set_other}
use Rattle.masks.specs.Sets.{bit, pick}
use Rattle.masks.proofs.Tests.{T_and, and_T, T-or, or_l, or_r, T_false, iff-eq}
use Rattle.graphs.specs.Graph.{Of, Differ}
use Rattle.graphs.specs.Light.{left}
use Rattle.graphs.proofs.Lists.{of?, map-append, map-ext, all_alike}
use Rattle.graphs.proofs.Loops.{Hits}
use Rattle.trees.specs.Tree.{Tree, off, on, br, eval, join_t}
use Rattle.trees.proofs.Joins.{join_t-eval}
use Rattle.cycles.specs.Passes.{any, each, joined, either, ors_after, ors, F, result, handed, at_flop, passes, listed}
use Rattle.cycles.proofs.Each.{any-iff, each-iff}
use Rattle.cycles.specs.Work.{Later}
use Rattle.cycles.proofs.Passes.{Pass, from_back, from-other, pass-steps, pass-is}

-- ---- the trees, computed

-- the tree of a flip-flop in a table, and the table of the first m
abbrev pub look : List Tree → ℕ → Tree
look ts v = get_or ts v off

unfoldable pub table : ℕ → (ℕ → Tree) → List Tree
table zero f = []
table (suc m) f = table m f ++ (f m ∷ [])

-- the OR of the first one, two, .. trees, and of all
unfoldable pub ors_after_t : Tree → List Tree → List Tree
ors_after_t t [] = []
ors_after_t t (s ∷ ss) = let r : Tree = join_t true t s in r ∷ ors_after_t r ss

unfoldable pub ors_t : List Tree → List Tree
ors_t [] = []
ors_t (t ∷ ts) = t ∷ ors_after_t t ts

unfoldable pub or_from : Tree → List Tree → Tree
or_from t [] = t
or_from t (s ∷ ss) = or_from (join_t true t s) ss

abbrev pub or_all : List Tree → Tree
or_all ts = or_from off ts

-- the trees made so far, and those of the last pass
pub record Run : Type 0 where
  pub made : List Tree
  pub now : List Tree

module _ (E : ℕ → ℕ → Bool) (n B C : ℕ) where
  -- what u hands on, where `last` and `now` are the trees of two passes
  abbrev pub handed_t : List Tree → List Tree → ℕ → Tree
  handed_t last now u = pick (bit B u) (look last u) (look now u)

  unfoldable pub product_t : List Tree → List Tree → ℕ → Tree
  product_t last now v = join_t false (br v off on) (or_all (map (handed_t last now) (each n (λ u. E u v))))

  -- one pass: the last of the list first
  abbrev pub placed : List Tree → ℕ → List Tree → List Tree
  placed last v now = set now v (product_t last now v)

  unfoldable pub fill : List Tree → List ℕ → List Tree
  fill last [] = replicate n off
  fill last (v ∷ vs) = placed last v (fill last vs)

  unfoldable pub at_flop_t : List Tree → List Tree → ℕ → List Tree
  at_flop_t last now v = ors_t (map (handed_t last now) (each n (λ u. E u v))) ++ (look now v ∷ [])

  abbrev pub advance : Run → List Tree → Run
  advance r now = record { made = r.made ++ joined (map (at_flop_t r.now now) (each n (bit C))); now = now }

  abbrev pub one_pass : List ℕ → Run → Run
  one_pass xs r = advance r (fill r.now xs)

  -- k passes, with the flip-flops in the order xs
  unfoldable pub run : List ℕ → ℕ → Run
  run xs zero = record { made = []; now = table n (λ v. pick (bit B v) on off) }
  run xs (suc i) = one_pass xs (run xs i)

-- the trees of all listed functions, and of the result
unfoldable pub listed_t : ℕ → ℕ → ℕ → Run → List Tree
listed_t n B C r = map (λ v. br v off on) (each n (bit C)) ++ r.made ++ ors_t (map (look r.now) (each n (bit B)))

unfoldable pub result_t : ℕ → ℕ → Run → Tree
result_t n B r = or_all (map (look r.now) (each n (bit B)))

-- ---- tables

table-length : (m : ℕ) (f : ℕ → Tree) → length (table m f) ≡ m
unfolding table
table-length zero f = refl
table-length (suc m) f = omega (arith, length-append (table m f) (f m ∷ []), table-length m f)

pub table-look : (m : ℕ) (f : ℕ → Tree) (v : ℕ) → v < m → look (table m f) v ≡ f v
unfolding table
table-look zero f v l = absurd (omega arith)
table-look (suc m) f v l = go (ℕ_discrete v m) (table-look m f v)
  where
    go : Dec (v ≡ m) → (v < m → look (table m f) v ≡ f v) → get_or (table m f ++ (f m ∷ [])) v off ≡ f v
    go (yes e) ih = ap (λ z. get_or (table m f ++ (f m ∷ [])) z off) (e ∙ sym (table-length m f)) ∙ get_or-append_seam (table m f) (f m) [] off ∙ ap f (sym e)
    go (no k) ih =
        let k' : v ≢ m = k in
        get_or-append (table m f) (f m ∷ []) off v (omega (arith, table-length m f)) ∙ ih (omega arith)

pub table-past : (m : ℕ) (f : ℕ → Tree) (v : ℕ) → m ≤ v → look (table m f) v ≡ off
table-past m f v l = get_or-eq_default (table m f) off {n = v} (omega (arith, table-length m f))

-- ---- some of a list

-- whether one of a list passes
abbrev pub some_of : List ℕ → (ℕ → Bool) → Bool
some_of [] g = false
some_of (u ∷ us) g = g u || some_of us g

pub some-of-iff : (us : List ℕ) (g : ℕ → Bool) → T (some_of us g) ↔ ((u : ℕ) × Of u us × T (g u))
some-of-iff us g = (forth us, λ r. back us r.0 r.1 r.2)
  where
    forth : (us : List ℕ) → T (some_of us g) → (u : ℕ) × Of u us × T (g u)
    forth [] t = absurd t
    forth (x ∷ us) t = ⊎_elim (λ s. (x, inl refl, s)) (λ s. let r = forth us s in (r.0, inr r.1, r.2)) (T-or (g x) (some_of us g) t)

    back : (us : List ℕ) (u : ℕ) → Of u us → T (g u) → T (some_of us g)
    back [] u m t = absurd m
    back (x ∷ us) u (inl e) t = or_l (g x) (some_of us g) (subst (λ z. T (g z)) e t)
    back (x ∷ us) u (inr m) t = or_r (g x) (some_of us g) (back us u m t)

-- the OR over those that pass a test, in a list or not
pub some-any : (n : ℕ) (p g h : ℕ → Bool) → ((u : ℕ) → T (p u) → g u ≡ h u) → some_of (each n p) g ≡ any n (λ u. p u && h u)
some-any n p g h same = iff-eq (some_of (each n p) g) (any n (λ u. p u && h u)) (forth, back)
  where
    forth : T (some_of (each n p) g) → T (any n (λ u. p u && h u))
    forth t =
        let r = (some-of-iff (each n p) g).0 t in
        let q = (each-iff n p r.0).0 r.1 in
        (any-iff n (λ u. p u && h u)).1 (r.0, q.0, and_T (p r.0) (h r.0) q.1 (subst T (same r.0 q.1) r.2))

    back : T (any n (λ u. p u && h u)) → T (some_of (each n p) g)
    back t =
        let r = (any-iff n (λ u. p u && h u)).0 t in
        let q = T_and (p r.0) (h r.0) r.2 in
        (some-of-iff (each n p) g).1 (r.0, (each-iff n p r.0).1 (r.1, q.0), subst T (sym (same r.0 q.0)) q.1)

-- ---- the functions of the trees

pub or_from-eval : (f : ℕ → Tree) (us : List ℕ) (t : Tree) (K : ℕ) → eval (or_from t (map f us)) K ≡ (eval t K || some_of us (λ u. eval (f u) K))
unfolding or_from
or_from-eval f [] t K = sym (or-false (eval t K))
or_from-eval f (u ∷ us) t K =
    or_from-eval f us (join_t true t (f u)) K
    ∙ ap (λ x. x || some_of us (λ w. eval (f w) K)) (join_t-eval true t (f u) K)
    ∙ or_assoc (eval t K) (eval (f u) K) (some_of us (λ w. eval (f w) K))

join-either : (s t : Tree) → eval (join_t true s t) ≡ either (eval s) (eval t)
join-either s t = fun_ext (join_t-eval true s t)

ors_after_t-eval : (t : Tree) (ts : List Tree) → map eval (ors_after_t t ts) ≡ ors_after (eval t) (map eval ts)
unfolding ors_after_t
ors_after_t-eval t [] = refl
ors_after_t-eval t (s ∷ ss) = ap₂ ◌∷◌ (join-either t s) (ors_after_t-eval (join_t true t s) ss ∙ ap (λ f. ors_after f (map eval ss)) (join-either t s))

pub ors_t-eval : (ts : List Tree) → map eval (ors_t ts) ≡ ors (map eval ts)
unfolding ors_t
ors_t-eval [] = refl
ors_t-eval (t ∷ ts) = ap (λ fs. eval t ∷ fs) (ors_after_t-eval t ts)

pub var-eval : (v : ℕ) → eval (br v off on) ≡ (λ K. bit K v)
var-eval v = fun_ext (λ K. go (bit K v))
  where
    go : (x : Bool) → pick x true false ≡ x
    go true = refl
    go false = refl

map-joined : {A D : Type 0} (f : A → D) (xss : List (List A)) → map f (joined xss) ≡ joined (map (map f) xss)
map-joined f [] = refl
map-joined f (xs ∷ xss) = map-append f xs (joined xss) ∙ ap (λ zs. map f xs ++ zs) (map-joined f xss)

-- a table whose functions are those of pass i
abbrev pub Shows : (ℕ → ℕ → Bool) → List Tree → Type 0
Shows f ts = (v : ℕ) → eval (look ts v) ≡ f v

module _ (E : ℕ → ℕ → Bool) (n B C : ℕ) where
  pub handed_t-eval : (i : ℕ) (last now : List Tree) (u : ℕ) → (T (bit B u) → eval (look last u) ≡ F E n B i u)
      → (T (left B u) → eval (look now u) ≡ F E n B (suc i) u) → eval (handed_t E n B C last now u) ≡ handed E n B i u
  handed_t-eval i last now u p q = go (bit B u) p q
    where
      go : (x : Bool) → (T x → eval (look last u) ≡ F E n B i u) → (T (not x) → eval (look now u) ≡ F E n B (suc i) u)
          → eval (pick x (look last u) (look now u)) ≡ pick x (F E n B i u) (F E n B (suc i) u)
      go true p q = p tt
      go false p q = q tt

  pub at_flop_t-eval : (i : ℕ) (last now : List Tree) → Shows (F E n B i) last → Shows (F E n B (suc i)) now → (v : ℕ)
      → map eval (at_flop_t E n B C last now v) ≡ at_flop E n B i v
  unfolding at_flop_t
  at_flop_t-eval i last now p q v =
      map-append eval (ors_t hs) (look now v ∷ []) ∙ ap₂ ◌++◌ (ors_t-eval hs ∙ ap ors handed-same) (ap (λ f. f ∷ []) (q v))
    where
      us : List ℕ
      us = each n (λ u. E u v)

      hs : List Tree
      hs = map (handed_t E n B C last now) us

      handed-same : map eval hs ≡ map (handed E n B i) us
      handed-same =
          map-map eval (handed_t E n B C last now) us
          ∙ map-ext (λ u. eval (handed_t E n B C last now u)) (handed E n B i) us (λ u m. handed_t-eval i last now u (λ t. p u) (λ t. q u))

  -- ---- one pass, in a graph whose edges come from flip-flops below n, and where no closed walk avoids B

  module _ (source : (u w : ℕ) → T (E u w) → u < n) (meets : Hits E B) where
    pub product-eval : (i : ℕ) (last now : List Tree) (v : ℕ) → Shows (F E n B i) last
        → ((u : ℕ) → T (E u v) → T (left B u) → eval (look now u) ≡ F E n B (suc i) u) → eval (product_t E n B C last now v) ≡ F E n B (suc i) v
    unfolding product_t
    product-eval i last now v p q =
        fun_ext
        (λ K.
        join_t-eval false (br v off on) (or_all (map (handed_t E n B C last now) us)) K
        ∙ ap₂ ◌&&◌ (ap (λ f. f K) (var-eval v))
        (or_from-eval (handed_t E n B C last now) us off K
        ∙ some-any n (λ u. E u v) (λ u. eval (handed_t E n B C last now u) K) (λ u. handed E n B i u K)
        (λ u e. ap (λ f. f K) (handed_t-eval i last now u (λ t. p u) (q u e))))
        ∙ sym (pass-is E n B K source meets i v))
      where
        us : List ℕ
        us = each n (λ u. E u v)

    -- the flip-flops of the list have their trees, the others none
    pub record Filled (i : ℕ) (xs : List ℕ) (now : List Tree) : Type 0 where
      pub size : length now ≡ n
      pub have : (v : ℕ) → Of v xs → eval (look now v) ≡ F E n B (suc i) v
      pub rest : (v : ℕ) → (Of v xs → ⊥) → look now v ≡ off

    pub fill_is : (i : ℕ) (last : List Tree) → Shows (F E n B i) last → (xs : List ℕ) → Later E B xs → Differ xs → ((v : ℕ) → Of v xs → v < n)
        → Filled i xs (fill E n B C last xs)
    unfolding fill
    fill_is i last p [] l d below =
        record { size = length-replicate n off; have = λ v m. absurd m; rest = λ v m. all_alike off n v }
    fill_is i last p (x ∷ xs) l d below = go (fill_is i last p xs l.1 d.1 (λ v m. below v (inr m)))
      where
        now : List Tree
        now = fill E n B C last xs

        t : Tree
        t = product_t E n B C last now x

        go : Filled i xs now → Filled i (x ∷ xs) (set now x t)
        go f = record { size = length-set now x t ∙ f.size; have = λ v. ⊎_elim (here v) (λ m. there v m (ℕ_discrete v x)); rest = other }
          where
            here : (v : ℕ) → v ≡ x → eval (look (set now x t) v) ≡ F E n B (suc i) v
            here v e =
                ap (λ z. eval (look (set now x t) z)) e
                ∙ ap eval (get_or-set_same now x t off (omega (arith, f.size, below x (inl refl))))
                ∙ product-eval i last now x p (λ u e b. f.have u (l.0 u e b))
                ∙ ap (F E n B (suc i)) (sym e)

            there : (v : ℕ) → Of v xs → Dec (v ≡ x) → eval (look (set now x t) v) ≡ F E n B (suc i) v
            there v m (yes e) = here v e
            there v m (no k) = ap eval (get_or-set_other now x v t off k) ∙ f.have v m

            other : (v : ℕ) → (Of v (x ∷ xs) → ⊥) → look (set now x t) v ≡ off
            other v m = get_or-set_other now x v t off (λ e. m (inl e)) ∙ f.rest v (λ k. m (inr k))

    -- ---- all passes, over a list that has each flip-flop with an edge into it

    module _ (xs : List ℕ) (later : Later E B xs) (differ : Differ xs) (below : (v : ℕ) → Of v xs → v < n) (all : (u v : ℕ) → T (E u v) → Of v xs)
        (back : (v : ℕ) → T (bit B v) → v < n) where
      -- a flip-flop with no edge into it is 0
      out-zero : (i v : ℕ) → (Of v xs → ⊥) → eval off ≡ F E n B (suc i) v
      out-zero i v m = fun_ext (λ K. sym (T_false (F E n B (suc i) v K) (λ t. into (pass-steps E n B K (suc i) v t) m)))
        where
          into : {K j v : ℕ} → Pass E B K (suc j) v → (Of v xs → ⊥) → ⊥
          into (from_back {u = u} {v = v} k e b p) m = m (all u v e)
          into (from-other {u = u} {v = v} k e b p) m = m (all u v e)

      pub fill_shows : (i : ℕ) (last : List Tree) → Shows (F E n B i) last → Shows (F E n B (suc i)) (fill E n B C last xs)
      fill_shows i last p v = go (fill_is i last p xs later differ below) (of? v xs)
        where
          go : Filled i xs (fill E n B C last xs) → Dec (Of v xs) → eval (look (fill E n B C last xs) v) ≡ F E n B (suc i) v
          go f (yes m) = f.have v m
          go f (no k) = ap eval (f.rest v k) ∙ out-zero i v k

      pub start-shows : Shows (F E n B 0) (table n (λ v. pick (bit B v) on off))
      unfolding F
      start-shows v = fun_ext (λ K. go K (dec_lt v n))
        where
          value : (K : ℕ) (x : Bool) → eval (pick x on off) K ≡ x
          value K true = refl
          value K false = refl

          go : (K : ℕ) → Dec (v < n) → eval (look (table n (λ w. pick (bit B w) on off)) v) K ≡ bit B v
          go K (yes l) = ap (λ t. eval t K) (table-look n (λ w. pick (bit B w) on off) v l) ∙ value K (bit B v)
          go K (no k) =
              let k' : ¬ (v < n) = k in
              ap (λ t. eval t K) (table-past n (λ w. pick (bit B w) on off) v (omega arith))
              ∙ sym (T_false (bit B v) (λ t. let z : v < n = back v t in omega arith))

      -- after k passes: the trees are those of Fk, and what was made are the listed functions of the passes
      pub record Ran (k : ℕ) (r : Run) : Type 0 where
        pub shows : Shows (F E n B k) r.now
        pub are : map eval r.made ≡ passes E n B C k

      pub run_is : (k : ℕ) → Ran k (run E n B C xs k)
      unfolding run passes
      run_is zero = record { shows = start-shows; are = refl }
      run_is (suc i) = go (run_is i)
        where
          r : Run
          r = run E n B C xs i

          now : List Tree
          now = fill E n B C r.now xs

          go : Ran i r → Ran (suc i) (advance E n B C r now)
          go h =
              record {
                shows = fill_shows i r.now h.shows;
                are =
                    map-append eval r.made (joined (map (at_flop_t E n B C r.now now) (each n (bit C))))
                    ∙ ap₂ ◌++◌ h.are
                    (map-joined eval (map (at_flop_t E n B C r.now now) (each n (bit C)))
                    ∙ ap joined
                    (map-map (map eval) (at_flop_t E n B C r.now now) (each n (bit C))
                    ∙ map-ext (λ v. map eval (at_flop_t E n B C r.now now v)) (at_flop E n B i) (each n (bit C))
                    (λ v m. at_flop_t-eval i r.now now h.shows (fill_shows i r.now h.shows) v)));
              }

      now-eval : (k : ℕ) (vs : List ℕ) → map eval (map (look (run E n B C xs k).now) vs) ≡ map (F E n B k) vs
      now-eval k vs =
          map-map eval (look (run E n B C xs k).now) vs
          ∙ map-ext (λ v. eval (look (run E n B C xs k).now v)) (F E n B k) vs (λ v m. (run_is k).shows v)

      pub listed-are : (k : ℕ) → map eval (listed_t n B C (run E n B C xs k)) ≡ listed E n B C k
      unfolding listed_t
      listed-are k =
          map-append eval (map (λ v. br v off on) (each n (bit C)) ++ r.made) (ors_t (map (look r.now) (each n (bit B))))
          ∙ ap₂ ◌++◌
          (map-append eval (map (λ v. br v off on) (each n (bit C))) r.made
          ∙ ap₂ ◌++◌
          (map-map eval (λ v. br v off on) (each n (bit C))
          ∙ map-ext (λ v. eval (br v off on)) (λ v K. bit K v) (each n (bit C)) (λ v m. var-eval v))
          (run_is k).are)
          (ors_t-eval (map (look r.now) (each n (bit B))) ∙ ap ors (now-eval k (each n (bit B))))
        where
          r : Run
          r = run E n B C xs k

      pub result-is : (k K : ℕ) → eval (result_t n B (run E n B C xs k)) K ≡ result E n B k K
      unfolding result_t result
      result-is k K =
          or_from-eval (look (run E n B C xs k).now) (each n (bit B)) off K
          ∙ some-any n (bit B) (λ b. eval (look (run E n B C xs k).now b) K) (λ b. F E n B k b K) (λ b t. ap (λ f. f K) ((run_is k).shows b))
