-- One pass in the node room, the last ended flip-flop first: what is known after those of the list from place k on. Each in-neighbour of the next one is in B,
-- or stands after it in the list, so the table has what it hands on. Assumes nothing.
use mathlib.Core.Path.{◌≡◌, refl, sym, ap, ap₂, ◌∙◌, subst, subst₂, fun_ext}
use mathlib.Core.Logic.Iff
use mathlib.Core.Logic.{◌≢◌, inl, inr, ⊎_elim, ◌↔◌}
use mathlib.Core.Bool.{Bool, true, false, not, ◌&&◌}
use mathlib.Core.List.{List, [], ◌∷◌, ◌++◌, map}
use Prim.Native.Nat.{ℕ, zero, suc, ◌+◌, ◌-◌, ◌≤◌, ◌<◌}
use native.Mathlib.Omega.{arith}
use native.Mathlib.Numerals.{add-one}
use native.Mathlib.Decide.{ℕ_discrete}
use lib.Dec.{T}
use lib.ListN.{length, length-set, get_or, set, drop}
use lib.Seq.{drop-cons}
use Rattle.std.specs.Prelude.{Result, Ok, Err, IsErr}
use Rattle.std.proofs.lemmas.Bool.{false≢true}
use Rattle.masks.specs.Sets.{bit, pick, number}
use Rattle.masks.proofs.Tests.{T_false}
use Rattle.graphs.specs.Graph.{edge, Of}
use Rattle.graphs.specs.Light.{left}
use Rattle.graphs.specs.Components.{inside}
use Rattle.graphs.proofs.Lists.{Of-left, Of-right, Of-cases}
use Rattle.graphs.proofs.Components.{EdgesBelow, edges-below}
use Rattle.nodes.specs.Codes.{Table}
use Rattle.nodes.specs.declared.Node.{Node}
use Rattle.nodes.specs.declared.Full.{Full}
use Rattle.cycles.specs.Passes.{any, each, joined, ors, handed, at_flop}
use Rattle.cycles.specs.declared.search.Order.{Order}
use Rattle.cycles.specs.Work.{Later, code_at, Code, Shows, Shown, Added, Makes, ors_of, and_of, IsVariable, Multiplied, Wired, back_in, pass_at, listed_in, Ready, Passed, PassPromise}
use Rattle.cycles.proofs.Each.{any-ext, each-ext, each-iff}
use Rattle.cycles.proofs.Searches.{member-lt, back-within, back-meets}
use Rattle.cycles.proofs.Passes.{inside-source, pass-is}
use Rattle.cycles.proofs.Holdings.{code-kept, code-set, code_other, shows_kept, added_none, added-same, added_more, lacking-in, lacking-more}
use Rattle.cycles.proofs.Sums.{each-skip, any-skip}

-- ---- lists of lists

pub joined_of : {A : Type 0} (h : ℕ → List A) (xs : List ℕ) (f : A) → Of f (joined (map h xs)) ↔ ((v : ℕ) × Of v xs × Of f (h v))
joined_of h xs f = (forth xs, λ r. back xs r.0 r.1 r.2)
  where
    forth : (xs : List ℕ) → Of f (joined (map h xs)) → (v : ℕ) × Of v xs × Of f (h v)
    forth [] m = absurd m
    forth (x ∷ xs) m =
        ⊎_elim (λ k. (x, inl refl, k)) (λ k. let r = forth xs k in (r.0, inr r.1, r.2)) (Of-cases f (h x) (joined (map h xs)) m)

    back : (xs : List ℕ) (v : ℕ) → Of v xs → Of f (h v) → Of f (joined (map h xs))
    back [] v h m = absurd h
    back (x ∷ xs) v (inl e) m = Of-left f (h x) (joined (map h xs)) (subst (λ z. Of f (h z)) e m)
    back (x ∷ xs) v (inr k) m = Of-right f (h x) (joined (map h xs)) (back xs v k m)

pub joined_same : {A : Type 0} (h : ℕ → List A) (xs ys : List ℕ) → ((v : ℕ) → Of v xs ↔ Of v ys) → (f : A) → Of f (joined (map h xs)) ↔ Of f (joined (map h ys))
joined_same h xs ys e f =
    Iff.trans (joined_of h xs f)
    (Iff.trans ((λ r. (r.0, (e r.0).0 r.1, r.2)), λ r. (r.0, (e r.0).1 r.1, r.2)) (Iff.symm (joined_of h ys f)))

swap-of : {A : Type 0} (xs ys : List A) (f : A) → Of f (xs ++ ys) ↔ Of f (ys ++ xs)
swap-of xs ys f = (
  (λ m. ⊎_elim (λ k. Of-right f ys xs k) (λ k. Of-left f ys xs k) (Of-cases f xs ys m)),
  λ m. ⊎_elim (λ k. Of-right f xs ys k) (λ k. Of-left f xs ys k) (Of-cases f ys xs m),
)

-- ---- the order, from place k on

later-drop : (E : ℕ → ℕ → Bool) (B : ℕ) (xs : List ℕ) (k : ℕ) → Later E B xs → Later E B (drop k xs)
later-drop E B xs zero l = l
later-drop E B [] (suc k) l = tt
later-drop E B (x ∷ xs) (suc k) l = later-drop E B xs k l.1

of-drop : (xs : List ℕ) (k v : ℕ) → Of v (drop k xs) → Of v xs
of-drop xs zero v m = m
of-drop [] (suc k) v m = absurd m
of-drop (x ∷ xs) (suc k) v m = inr (of-drop xs k v m)

-- ---- one flip-flop

module _ (rows : List ℕ) (C : ℕ) (order : Order) (sources : List ℕ) (w : Wired rows C order sources) where
  abbrev n : ℕ
  n = length rows

  abbrev E : ℕ → ℕ → Bool
  E = inside (edge rows) C

  abbrev B : ℕ
  B = back_in rows C

  abbrev xs : List ℕ
  xs = order.flops.items

  low : EdgesBelow (edge rows) n
  low = edges-below rows w.sound.fit

  abbrev row : ℕ → ℕ
  row v = get_or sources v 0

  outside : (v u : ℕ) → n ≤ u → E u v ≡ false
  outside v u l =
      T_false (E u v) (λ t. let k : u < n = inside-source low w.component u v t in omega arith)

  into-each : (v : ℕ) → each 64 (bit (row v)) ≡ each n (λ u. E u v)
  into-each v =
      each-ext 64 (bit (row v)) (λ u. E u v) (λ u l. w.into v u) ∙ each-skip (λ u. E u v) n 64 w.sound.few (λ u l k. outside v u l)

  into-any : (v : ℕ) (g : ℕ → ℕ → Bool) (K : ℕ) → any 64 (λ u. bit (row v) u && g u K) ≡ any n (λ u. E u v && g u K)
  into-any v g K =
      any-ext 64 (λ u. bit (row v) u && g u K) (λ u. E u v && g u K) (λ u l. ap (λ x. x && g u K) (w.into v u))
      ∙ any-skip (λ u. E u v && g u K) n 64 w.sound.few (λ u l k. rw (outside v u l))

  -- the product is that of the next pass
  product_is : (i v : ℕ) → and_of v (row v) (handed E n B i) ≡ pass_at rows C (suc i) v
  product_is i v =
      fun_ext
      (λ K.
      ap (λ x. bit K v && x) (into-any v (handed E n B i) K)
      ∙ sym (pass-is E n B K (inside-source low w.component) (back-meets low w.component) i v))

  -- and what is made on the way is what is listed
  listed-is : (i v : ℕ) → ors_of (row v) (handed E n B i) ++ (and_of v (row v) (handed E n B i) ∷ []) ≡ at_flop E n B i v
  listed-is i v = ap₂ ◌++◌ (ap (λ us. ors (map (handed E n B i) us)) (into-each v)) (ap (λ f. f ∷ []) (product_is i v))

-- ---- the loop

-- of the flip-flops from place k on: what they list was made, and the tables have what they have in this pass
pub record Passing (rows : List ℕ) (C : ℕ) (order : Order) (i : ℕ) (ws₀ : List ℕ) (k : ℕ) (ws : List ℕ) (table next : List Node) : Type 0 where
  pub added : Added ws₀ ws (joined (map (at_flop (inside (edge rows) C) (length rows) (back_in rows C) i) (drop k order.flops.items)))
  pub long : (length table ≡ 64) × (length next ≡ 64)
  pub last : Shows ws table (back_in rows C) (pass_at rows C i)
  pub others : (v : ℕ) → Of v (drop k order.flops.items) → T (left (back_in rows C) v) → Code ws (code_at table v) (pass_at rows C (suc i) v)
  pub fresh : (v : ℕ) → Of v (drop k order.flops.items) → T (bit (back_in rows C) v) → Code ws (code_at next v) (pass_at rows C (suc i) v)

drop-all : (vs : List ℕ) → drop (length vs) vs ≡ []
drop-all [] = refl
drop-all (v ∷ vs) = drop-all vs

module _ (rows : List ℕ) (C i : ℕ) (ws₀ : List ℕ) (order : Order) (sources : List ℕ) (variables table₀ : List Node)
    (r : Ready rows C i ws₀ order sources variables table₀) where
  abbrev wires : Wired rows C order sources
  wires = r.wired

  -- the list, and what one flip-flop lists
  abbrev flops : List ℕ
  flops = order.flops.items

  abbrev lists : ℕ → List (ℕ → Bool)
  lists = at_flop (inside (edge rows) C) (length rows) (back_in rows C) i

  -- the list has the members of C
  same-flops : (u : ℕ) → Of u flops ↔ Of u (each (length rows) (bit C))
  same-flops u = (
    (λ m. let t = (wires.searched.order.members u).0 m in
        (each-iff (length rows) (bit C) u).1 (member-lt (edges-below rows wires.sound.fit) wires.component u t, t)),
    λ m. (wires.searched.order.members u).1 ((each-iff (length rows) (bit C) u).0 m).1,
  )

  pub pass-none : (k : ℕ) → k ≡ length order.flops.items → (next : List Node) → Table ws₀ → length table₀ ≡ 64 → length next ≡ 64
      → Passing rows C order i ws₀ k ws₀ table₀ next
  pass-none k all next t l m =
      let e : drop k flops ≡ [] = ap (λ j. drop j flops) all ∙ drop-all flops in
      record {
        added = subst (λ vs. Added ws₀ ws₀ (joined (map lists vs))) (sym e) (added_none t);
        long = (l, m);
        last = r.last;
        others = λ v m. absurd (subst (Of v) e m);
        fresh = λ v m. absurd (subst (Of v) e m);
      }

  -- the flip-flop v before place k
  module _ (k : ℕ) (ws : List ℕ) (table next : List Node) (some : 0 < k) (inner : k ≤ length order.flops.items) (p : Passing rows C order i ws₀ k ws table next)
      (v : ℕ) (before : v ≡ get_or order.flops.items (k - 1) 0) where
    abbrev j : ℕ
    j = k - 1

    -- it stands before the others
    here : drop j flops ≡ v ∷ drop k flops
    here =
        drop-cons flops j 0 l ∙ ap₂ (λ x m. x ∷ drop m flops) (sym before) (sym (add-one j) ∙ down)
      where
        down : j + 1 ≡ k
        down = omega arith

        l : j < length flops
        l = omega arith

    member : T (bit C v)
    member = (wires.searched.order.members v).0 (of-drop flops j v (subst (Of v) (sym here) (inl refl)))

    pub below : v < 64
    below = omega (arith, member-lt (edges-below rows wires.sound.fit) wires.component v member, wires.sound.few)

    -- what its in-neighbours hand on
    pub hands : Shows ws table (get_or sources v 0) (handed (inside (edge rows) C) (length rows) (back_in rows C) i)
    hands u t = go (bit (back_in rows C) u) (p.last u) (λ b. p.others u (after b) b)
      where
        after : T (left (back_in rows C) u) → Of u (drop k flops)
        after b =
            (subst (Later (inside (edge rows) C) (back_in rows C)) here
            (later-drop (inside (edge rows) C) (back_in rows C) flops j wires.searched.order.later)).0 u (subst T (wires.into v u) t) b

        go : (x : Bool) → (T x → Code ws (code_at table u) (pass_at rows C i u)) → (T (not x) → Code ws (code_at table u) (pass_at rows C (suc i) u))
            → Code ws (code_at table u) (pick x (pass_at rows C i u) (pass_at rows C (suc i) u))
        go true f g = f tt
        go false f g = g tt

    variable : IsVariable ws (code_at variables v) v
    variable = code-kept p.added.grows (r.given v member)

    -- so its product may be made
    pub may-join : (c : ℕ) → c ≡ code_at variables v → (u : ℕ) × IsVariable ws c u
    may-join c is_code = (v, subst (λ x. IsVariable ws x v) (sym is_code) variable)

    pub may-sum : (S : ℕ) → S ≡ get_or sources v 0 → Shown ws table S
    may-sum S is_row =
        subst (Shown ws table) (sym is_row) (record { given = handed (inside (edge rows) C) (length rows) (back_in rows C) i; shown = hands })

    -- the product of this flip-flop, with what it lists
    module _ (ws' : List ℕ) (c S : ℕ) (made : Result Node Full) (is_code : c ≡ code_at variables v) (is_row : S ≡ get_or sources v 0)
        (m : Multiplied ws ws' table c S made) where
      makes : Makes ws ws' (lists v) (pass_at rows C (suc i) v) made
      makes =
          subst₂ (λ L f. Makes ws ws' L f made) (listed-is rows C order sources wires i v) (product_is rows C order sources wires i v)
          (at_row.made v (handed (inside (edge rows) C) (length rows) (back_in rows C) i) (subst (λ z. IsVariable ws z v) (sym is_code) variable) hands)
        where
          at_row : Multiplied ws ws' table c (get_or sources v 0) made
          at_row = subst (λ z. Multiplied ws ws' table c z made) is_row m

    pub pass-full : (ws' : List ℕ) (c S : ℕ) (f : Full) → c ≡ code_at variables v → S ≡ get_or sources v 0 → Multiplied ws ws' table c S (Err f)
        → (table' next' : List Node) (x : Result Unit Full) → IsErr x → PassPromise rows C i ws₀ ws' table' next' x
    pass-full ws' c S f is_code is_row m table' next' (Ok x) e = absurd (false≢true e)
    pass-full ws' c S f is_code is_row m table' next' (Err x) e = lacking-in all (lacking-more p.added (makes ws' c S (Err f) is_code is_row m))
      where
        all : (f : ℕ → Bool) → Of f (joined (map lists (drop k flops)) ++ lists v) → Of f (listed_in rows C i)
        all f q =
            (joined_same lists flops (each (length rows) (bit C)) same-flops f).0
            ((joined_of lists flops f).1
            (⊎_elim (λ a. let x = (joined_of lists (drop k flops) f).0 a in (x.0, of-drop flops k x.0 x.1, x.2))
            (λ a. (v, of-drop flops j v (subst (Of v) (sym here) (inl refl)), a)) (Of-cases f (joined (map lists (drop k flops))) (lists v) q)))

    module _ (ws' : List ℕ) (c S : ℕ) (d : Node) (is_code : c ≡ code_at variables v) (is_row : S ≡ get_or sources v 0)
        (m : Multiplied ws ws' table c S (Ok d)) where
      one : Added ws ws' (lists v) × Code ws' d.0 (pass_at rows C (suc i) v)
      one = makes ws' c S (Ok d) is_code is_row m

      added' : Added ws₀ ws' (joined (map lists (drop j flops)))
      added' =
          subst (λ vs. Added ws₀ ws' (joined (map lists vs))) (sym here)
          (added-same (swap-of (joined (map lists (drop k flops))) (lists v)) (added_more p.added one.0))

      -- a flip-flop from here on is this one, or one of the others
      again : {P : ℕ → Type 0} → P v → ((u : ℕ) → u ≢ v → Of u (drop k flops) → P u) → (u : ℕ) → Of u (drop j flops) → P u
      again {P} f g u q = go (ℕ_discrete u v) (subst (Of u) here q)
        where
          go : Dec (u ≡ v) → Of u (v ∷ drop k flops) → P u
          go (yes b) a = subst P (sym b) f
          go (no b) (inl a) = absurd (b a)
          go (no b) (inr a) = g u b a

      -- where it is in B
      pub pass-back : (next' : List Node) (x : Bool) → x ≡ bit (number order.back) v → x ≡ true → next' ≡ set next v d
          → Passing rows C order i ws₀ j ws' table next'
      pass-back next' x is_back took q =
          let b : bit (back_in rows C) v ≡ true = ap (λ S. bit S v) (sym wires.searched.back) ∙ sym is_back ∙ took in
          record {
            added = added';
            long = (p.long.0, ap length q ∙ length-set next v d ∙ p.long.1);
            last = shows_kept table (back_in rows C) one.0.grows p.last;
            others = again (λ t. absurd (subst T (ap not b) t)) (λ u k a t. code-kept one.0.grows (p.others u a t));
            fresh =
                again (λ t. code-set next next' v d (omega (arith, below, p.long.1)) q one.1)
                (λ u k a t. code_other next next' v d u k q (code-kept one.0.grows (p.fresh u a t)));
          }

      -- where it is not
      pub pass-other : (table' : List Node) (x : Bool) → x ≡ bit (number order.back) v → x ≡ false → table' ≡ set table v d
          → Passing rows C order i ws₀ j ws' table' next
      pass-other table' x is_back left_it q =
          let b : bit (back_in rows C) v ≡ false = ap (λ S. bit S v) (sym wires.searched.back) ∙ sym is_back ∙ left_it in
          record {
            added = added';
            long = (ap length q ∙ length-set table v d ∙ p.long.0, p.long.1);
            last = λ u t.
                code_other table table' v d u (λ z. subst T (ap (bit (back_in rows C)) z ∙ b) t) q (code-kept one.0.grows (p.last u t));
            others =
                again (λ t. code-set table table' v d (omega (arith, below, p.long.0)) q one.1)
                (λ u k a t. code_other table table' v d u k q (code-kept one.0.grows (p.others u a t)));
            fresh = again (λ t. absurd (subst T b t)) (λ u k a t. code-kept one.0.grows (p.fresh u a t));
          }

  pub pass-done : (k : ℕ) (ws : List ℕ) (table next : List Node) → k ≡ 0 → Passing rows C order i ws₀ k ws table next → Passed rows C i ws₀ ws table next
  pass-done k ws table next e p =
      record {
        added =
            added-same (joined_same lists flops (each (length rows) (bit C)) same-flops)
            (subst (λ m. Added ws₀ ws (joined (map lists (drop m flops)))) e p.added);
        last = p.last;
        next = λ v t. p.fresh v (subst (λ m. Of v (drop m flops)) (sym e) (of-back v t)) t;
      }
    where
      of-back : (v : ℕ) → T (bit (back_in rows C) v) → Of v flops
      of-back v t = (wires.searched.order.members v).1 (back-within (edges-below rows wires.sound.fit) wires.component v t)
