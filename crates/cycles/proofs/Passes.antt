-- What the passes mean: Fi(v) is 1 at a kept set exactly where a walk of kept flip-flops ends at v that passed i members of B, the first of which need not
-- be kept. So, with as many passes as B has members, one of them comes twice, and the cycle function is 1 exactly where the kept ones hold a loop; and
-- the bound on the way back to B may be left out. Assumes nothing.
use mathlib.Core.Path.{◌≡◌, refl, sym, ap, subst}
use mathlib.Core.Logic.Iff
use mathlib.Core.Logic.{◌⊎◌, inl, inr, ⊎_elim, ◌↔◌}
use mathlib.Core.Bool.{Bool, true, false, ◌&&◌}
use mathlib.Core.List.{List, [], ◌∷◌}
use Prim.Native.Nat.{ℕ, zero, suc, ◌≤◌, ◌<◌}
use native.Mathlib.Omega.{arith}
use lib.Dec.{T}
use lib.ListN.{length}
use Rattle.masks.specs.Sets.{bit, pick}
use Rattle.masks.proofs.Tests.{T_and, and_T, T?, T-no, iff-eq}
use Rattle.graphs.specs.Graph.{Of, Differ, Walk, edge_to, step_to, Loop}
use Rattle.graphs.specs.Light.{left}
use Rattle.graphs.specs.Components.{Component, Components, inside}
use Rattle.graphs.proofs.Lists.{differ-le, of?}
use Rattle.graphs.proofs.Walks.{start-kept, snoc, join}
use Rattle.graphs.proofs.Loops.{Hits, loop-iff}
use Rattle.graphs.proofs.Parts.{outside-walk, inside-edge}
use Rattle.graphs.proofs.Components.{EdgesBelow, components-parted}
use Rattle.cycles.specs.Search.{back_of}
use Rattle.cycles.specs.Passes.{any, each, within, F, result, handed, cycle}
use Rattle.cycles.proofs.Each.{any-from, any-to, each_to, each-ones, differ-below}
use Rattle.cycles.proofs.Searches.{back-lt, back_fits, back-meets}

-- ---- a pass at one kept set, by its steps

-- Fi(v) is 1 at the kept set K
pub data Pass (E : ℕ → ℕ → Bool) (B K : ℕ) : ℕ → ℕ → Type 0 where
  base : {b : ℕ} → T (bit B b) → Pass E B K zero b
  from_back : {i u v : ℕ} → T (bit K v) → T (E u v) → T (bit B u) → Pass E B K i u → Pass E B K (suc i) v
  from-other : {i u v : ℕ} → T (bit K v) → T (E u v) → (T (bit B u) → ⊥) → Pass E B K (suc i) u → Pass E B K (suc i) v

pick_yes : (b x y : Bool) → T b → T (pick b x y) ↔ T x
pick_yes true x y h = ((λ t. t), λ t. t)
pick_yes false x y h = absurd h

pick_no : (b x y : Bool) → (T b → ⊥) → T (pick b x y) ↔ T y
pick_no true x y h = absurd (h tt)
pick_no false x y h = ((λ t. t), λ t. t)

module _ (E : ℕ → ℕ → Bool) (n B K : ℕ) where
  -- the test of one in-neighbour
  abbrev test : (ℕ → ℕ → Bool) → ℕ → ℕ → ℕ → Bool
  test last d v u = E u v && pick (bit B u) (last u K) (within E n B last d u K)

  -- a pass that is 1 has steps
  within-steps : (i : ℕ) (last : ℕ → ℕ → Bool) → ((u : ℕ) → T (last u K) → Pass E B K i u) → (d v : ℕ) → T (within E n B last d v K)
      → Pass E B K (suc i) v
  unfolding within
  within-steps i last back zero v t = absurd t
  within-steps i last back (suc d) v t =
      let s = T_and (bit K v) (any n (test last d v)) t in
      let r = any-from n (test last d v) s.1 in
      let q = T_and (E r.0 v) (pick (bit B r.0) (last r.0 K) (within E n B last d r.0 K)) r.2 in
      go r.0 s.0 q.0 q.1 (T? (bit B r.0)) (within-steps i last back d r.0)
    where
      go : (u : ℕ) → T (bit K v) → T (E u v) → T (pick (bit B u) (last u K) (within E n B last d u K)) → Dec (T (bit B u))
          → (T (within E n B last d u K) → Pass E B K (suc i) u) → Pass E B K (suc i) v
      go u k e t (yes b) ih = from_back k e b (back u ((pick_yes (bit B u) (last u K) (within E n B last d u K) b).0 t))
      go u k e t (no b) ih = from-other k e b (ih ((pick_no (bit B u) (last u K) (within E n B last d u K) b).0 t))

  pub pass-steps : (i v : ℕ) → T (F E n B i v K) → Pass E B K i v
  unfolding F
  pass-steps zero v t = base t
  pass-steps (suc i) v t = within-steps i (F E n B i) (pass-steps i) n v t

module _ (E : ℕ → ℕ → Bool) (n B K : ℕ) (source : (u v : ℕ) → T (E u v) → u < n) (meets : Hits E B) where
  -- the flip-flops behind v, back to the last member of B: they are different, so n steps are enough
  record Behind (last : ℕ → ℕ → Bool) (v : ℕ) : Type 0 where
    them : List ℕ
    differ : Differ them
    below : (x : ℕ) → Of x them → x < n
    reach : (x : ℕ) → Of x them → T (bit B x) ⊎ (T (left B v) → Walk E (left B) x v)
    enough : (d : ℕ) → length them ≤ d → T (within E n B last d v K)

  module _ (i : ℕ) (last : ℕ → ℕ → Bool) (have : (u : ℕ) → Pass E B K i u → T (last u K)) where
    one_more : (d u v : ℕ) → T (bit K v) → T (E u v) → T (pick (bit B u) (last u K) (within E n B last d u K)) → T (within E n B last (suc d) v K)
    unfolding within
    one_more d u v k e t =
        and_T (bit K v) (any n (test E n B K last d v)) k
        (any-to n (test E n B K last d v) u (source u v e) (and_T (E u v) (pick (bit B u) (last u K) (within E n B last d u K)) e t))

    more : (m u v : ℕ) → T (bit K v) → T (E u v) → ((d : ℕ) → m ≤ d → T (pick (bit B u) (last u K) (within E n B last d u K)))
        → (d : ℕ) → suc m ≤ d → T (within E n B last d v K)
    more m u v k e f zero l = absurd (omega arith)
    more m u v k e f (suc d) l = one_more d u v k e (f d (omega arith))

    by-back : (u v : ℕ) → T (bit K v) → T (E u v) → T (bit B u) → Pass E B K i u → Behind last v
    by-back u v k e b p =
        record {
          them = u ∷ [];
          differ = ((λ h. h), tt);
          below = λ x. ⊎_elim (λ q. subst (λ z. z < n) (sym q) (source u v e)) (λ h. absurd h);
          reach = λ x. ⊎_elim (λ q. inl (subst (λ z. T (bit B z)) (sym q) b)) (λ h. absurd h);
          enough = more 0 u v k e (λ d l. (pick_yes (bit B u) (last u K) (within E n B last d u K) b).1 (have u p));
        }

    by-other : (u v : ℕ) → T (bit K v) → T (E u v) → (T (bit B u) → ⊥) → Behind last u → Behind last v
    by-other u v k e b r =
        record {
          them = u ∷ r.them;
          differ = ((λ h. ⊎_elim b (λ w. meets u (w (T-no (bit B u) b))) (r.reach u h)), r.differ);
          below = λ x. ⊎_elim (λ q. subst (λ z. z < n) (sym q) (source u v e)) (r.below x);
          reach = λ x.
              ⊎_elim (λ q. inr (λ nv. subst (λ z. Walk E (left B) z v) (sym q) (edge_to (T-no (bit B u) b) nv e)))
              (λ h. ⊎_elim (λ z. inl z) (λ w. inr (λ nv. snoc (w (T-no (bit B u) b)) e nv)) (r.reach x h));
          enough = more (length r.them) u v k e (λ d l. (pick_no (bit B u) (last u K) (within E n B last d u K) b).1 (r.enough d l));
        }

    behind : {v : ℕ} → Pass E B K (suc i) v → Behind last v
    behind (from_back {u = u} {v = v} k e b p) = by-back u v k e b p
    behind (from-other {u = u} {v = v} k e b p) = by-other u v k e b (behind p)

  pub steps-pass : (i v : ℕ) → Pass E B K i v → T (F E n B i v K)
  unfolding F
  steps-pass zero v (base b) = b
  steps-pass (suc i) v p =
      let r : Behind (F E n B i) v = behind i (F E n B i) (steps-pass i) p in
      r.enough n (differ-below n r.them r.differ r.below)

  -- "Fi(v) is v AND the OR over in-neighbours u of: F(i-1)(u) if u is in B, else Fi(u)", with no bound
  pub pass-is : (i v : ℕ) → F E n B (suc i) v K ≡ (bit K v && any n (λ u. E u v && handed E n B i u K))
  pass-is i v = iff-eq (F E n B (suc i) v K) (bit K v && any n (λ u. E u v && handed E n B i u K)) (forth, back)
    where
      hand : ℕ → Bool
      hand u = pick (bit B u) (F E n B i u) (F E n B (suc i) u) K

      hand-yes : (u : ℕ) (b : Bool) → bit B u ≡ b → T b → T (pick b (F E n B i u) (F E n B (suc i) u) K) ↔ T (F E n B i u K)
      hand-yes u true e t = ((λ t. t), λ t. t)
      hand-yes u false e t = absurd t

      hand-no : (u : ℕ) (b : Bool) → bit B u ≡ b → (T b → ⊥) → T (pick b (F E n B i u) (F E n B (suc i) u) K) ↔ T (F E n B (suc i) u K)
      hand-no u true e t = absurd (t tt)
      hand-no u false e t = ((λ t. t), λ t. t)

      found : {v : ℕ} → Pass E B K (suc i) v → T (bit K v && any n (λ u. E u v && hand u))
      found (from_back {u = u} {v = v} k e b p) =
          and_T (bit K v) (any n (λ x. E x v && hand x)) k
          (any-to n (λ x. E x v && hand x) u (source u v e) (and_T (E u v) (hand u) e ((hand-yes u (bit B u) refl b).1 (steps-pass i u p))))
      found (from-other {u = u} {v = v} k e b p) =
          and_T (bit K v) (any n (λ x. E x v && hand x)) k
          (any-to n (λ x. E x v && hand x) u (source u v e) (and_T (E u v) (hand u) e ((hand-no u (bit B u) refl b).1 (steps-pass (suc i) u p))))

      forth : T (F E n B (suc i) v K) → T (bit K v && any n (λ u. E u v && hand u))
      forth t = found (pass-steps E n B K (suc i) v t)

      back : T (bit K v && any n (λ u. E u v && hand u)) → T (F E n B (suc i) v K)
      back t =
          let s = T_and (bit K v) (any n (λ u. E u v && hand u)) t in
          let r = any-from n (λ u. E u v && hand u) s.1 in
          let q = T_and (E r.0 v) (hand r.0) r.2 in
          steps-pass (suc i) v (go r.0 s.0 q.0 q.1 (T? (bit B r.0)))
        where
          go : (u : ℕ) → T (bit K v) → T (E u v) → T (hand u) → Dec (T (bit B u)) → Pass E B K (suc i) v
          go u k e t (yes b) = from_back k e b (pass-steps E n B K i u ((hand-yes u (bit B u) refl b).0 t))
          go u k e t (no b) = from-other k e b (pass-steps E n B K (suc i) u ((hand-no u (bit B u) refl b).0 t))

-- ---- with as many passes as B has members, the kept ones hold a closed walk

module _ (E : ℕ → ℕ → Bool) (B K : ℕ) where
  -- each later flip-flop of the list has a walk to each earlier one, if it is kept; and the earlier ones are kept
  Linked : List ℕ → Type 0
  Linked [] = Unit {0}
  Linked (y ∷ ys) = ((x : ℕ) → Of x ys → T (bit K y) × (T (bit K x) → Walk E (bit K) x y)) × Linked ys

  -- the members of B that a pass went through
  record Trail (i v : ℕ) : Type 0 where
    visits : List ℕ
    many : length visits ≡ i
    members : (x : ℕ) → Of x visits → T (bit B x)
    linked : Linked (v ∷ visits)

  trail : {i v : ℕ} → Pass E B K i v → Trail i v
  unfolding Linked
  trail (base b) = record { visits = []; many = refl; members = λ x h. absurd h; linked = ((λ x h. absurd h), tt) }
  trail (from_back {u = u} {v = v} k e b p) =
      let t = trail p in
      record {
        visits = u ∷ t.visits;
        many = ap suc t.many;
        members = λ x. ⊎_elim (λ q. subst (λ z. T (bit B z)) (sym q) b) (t.members x);
        linked = (
          (λ x.
              ⊎_elim (λ q. (k, λ kx. subst (λ z. Walk E (bit K) z v) (sym q) (edge_to (subst (λ z. T (bit K z)) q kx) k e)))
              (λ h. (k, λ kx. snoc ((t.linked.0 x h).1 kx) e k))),
          t.linked,
        );
      }
  trail (from-other {u = u} {v = v} k e b p) =
      let t = trail p in
      record {
        visits = t.visits;
        many = t.many;
        members = t.members;
        linked = ((λ x h. (k, λ kx. snoc ((t.linked.0 x h).1 kx) e k)), t.linked.1);
      }

  -- one that comes twice closes a walk
  twice : (xs : List ℕ) → Linked xs → Differ xs ⊎ ((v : ℕ) × Walk E (bit K) v v)
  unfolding Linked
  twice [] l = inl tt
  twice (y ∷ ys) l = go (of? y ys) (twice ys l.1)
    where
      go : Dec (Of y ys) → Differ ys ⊎ ((v : ℕ) × Walk E (bit K) v v) → Differ (y ∷ ys) ⊎ ((v : ℕ) × Walk E (bit K) v v)
      go (yes h) r = inr (y, (l.0 y h).1 (l.0 y h).0)
      go (no k) (inl d) = inl (k, d)
      go (no k) (inr w) = inr w

  -- as many passes as a list has members, which holds all of B
  pass-closed : (bs : List ℕ) → ((b : ℕ) → T (bit B b) → Of b bs) → (b : ℕ) → T (bit B b) → Pass E B K (length bs) b → (v : ℕ) × Walk E (bit K) v v
  pass-closed bs all b hb p =
      let t = trail p in
      ⊎_elim
      (λ d.
      let k : length (b ∷ t.visits) ≤ length bs = differ-le (b ∷ t.visits) bs d
      (λ x. ⊎_elim (λ q. subst (λ z. Of z bs) (sym q) (all b hb)) (λ h. all x (t.members x h))) in
      absurd (omega (arith, t.many)))
      (λ w. w) (twice (b ∷ t.visits) t.linked)

  -- ---- a closed walk through a member of B passes at every count

  module _ (b : ℕ) (hb : T (bit B b)) (w : Walk E (bit K) b b) where
    forward : (i : ℕ) → ((z : ℕ) → Walk E (bit K) b z → T (bit B z) → Pass E B K i z)
        → {x y : ℕ} → Walk E (bit K) b x → ((T (bit B x) → ⊥) → Pass E B K (suc i) x) → Walk E (bit K) x y → Pass E B K (suc i) y
    forward i prev {x} {y} pre r (edge_to k l e) = hop (T? (bit B x))
      where
        hop : Dec (T (bit B x)) → Pass E B K (suc i) y
        hop (yes h) = from_back l e h (prev x pre h)
        hop (no h) = from-other l e h (r h)
    forward i prev {x} pre r (step_to {x = z} k e p) = forward i prev (snoc pre e (start-kept p)) (λ q. hop (T? (bit B x))) p
      where
        hop : Dec (T (bit B x)) → Pass E B K (suc i) z
        hop (yes h) = from_back (start-kept p) e h (prev x pre h)
        hop (no h) = from-other (start-kept p) e h (r h)

    on-and-on : (i z : ℕ) → Walk E (bit K) b z → T (bit B z) → Pass E B K i z
    on-and-on zero z p h = base h
    on-and-on (suc i) z p h = forward i (on-and-on i) w (λ k. absurd (k hb)) p

  -- a walk stays outside B, or comes to a member
  record Comes (a c : ℕ) : Type 0 where
    at : ℕ
    member : T (bit B at)
    to : (at ≡ a) ⊎ Walk E (bit K) a at
    from : (at ≡ c) ⊎ Walk E (bit K) at c

  find : {a c : ℕ} → Walk E (bit K) a c → Walk E (left B) a c ⊎ Comes a c
  find {a} {c} (edge_to k l e) = go (T? (bit B a)) (T? (bit B c))
    where
      go : Dec (T (bit B a)) → Dec (T (bit B c)) → Walk E (left B) a c ⊎ Comes a c
      go (yes h) d = inr (record { at = a; member = h; to = inl refl; from = inr (edge_to k l e) })
      go (no h) (yes g) = inr (record { at = c; member = g; to = inr (edge_to k l e); from = inl refl })
      go (no h) (no g) = inl (edge_to (T-no (bit B a) h) (T-no (bit B c) g) e)
  find {a} {c} (step_to {x = x} k e p) = go (T? (bit B a)) (find p)
    where
      go : Dec (T (bit B a)) → Walk E (left B) x c ⊎ Comes x c → Walk E (left B) a c ⊎ Comes a c
      go (yes h) r = inr (record { at = a; member = h; to = inl refl; from = inr (step_to k e p) })
      go (no h) (inl q) = inl (step_to (T-no (bit B a) h) e q)
      go (no h) (inr m) =
          inr (record {
            at = m.at;
            member = m.member;
            to = inr (⊎_elim (λ q. subst (λ z. Walk E (bit K) a z) (sym q) (edge_to k (start-kept p) e)) (λ q. step_to k e q) m.to);
            from = m.from;
          })

  closed_at : Hits E B → (v : ℕ) → Walk E (bit K) v v → (b : ℕ) × T (bit B b) × Walk E (bit K) b b
  closed_at meets v p = ⊎_elim (λ q. absurd (meets v q)) (λ m. (m.at, m.member, around m m.to m.from)) (find p)
    where
      around : (m : Comes v v) → (m.at ≡ v) ⊎ Walk E (bit K) v m.at → (m.at ≡ v) ⊎ Walk E (bit K) m.at v → Walk E (bit K) m.at m.at
      around m (inl e) f = subst (λ z. Walk E (bit K) z z) (sym e) p
      around m (inr q) (inl e) = subst (λ z. Walk E (bit K) z z) (sym e) p
      around m (inr q) (inr r) = join r q

  -- one member of B is still 1 after as many passes as B has members exactly where a closed walk is kept
  pub pass-walk : Hits E B → (bs : List ℕ) → ((b : ℕ) → T (bit B b) → Of b bs)
      → ((b : ℕ) × T (bit B b) × Pass E B K (length bs) b) ↔ ((v : ℕ) × Walk E (bit K) v v)
  pass-walk meets bs all = (
    (λ r. pass-closed bs all r.0 r.1 r.2),
    λ r. let c = closed_at meets r.0 r.1 in (c.0, c.1, on-and-on c.0 c.1 c.2 (length bs) c.0 c.2 c.1),
  )

-- ---- the result and the cycle function

-- whatever the size of B is, as many passes are enough
pub result-walk : (E : ℕ → ℕ → Bool) (n B K : ℕ) → ((u v : ℕ) → T (E u v) → u < n) → Hits E B → (bs : List ℕ)
    → ((b : ℕ) → T (bit B b) → Of b bs) → ((b : ℕ) → T (bit B b) → b < n) → T (result E n B (length bs) K) ↔ ((v : ℕ) × Walk E (bit K) v v)
unfolding result
result-walk E n B K source meets bs all low = Iff.trans (forth, back) (pass-walk E B K meets bs all)
  where
    k : ℕ
    k = length bs

    forth : T (any n (λ b. bit B b && F E n B k b K)) → (b : ℕ) × T (bit B b) × Pass E B K k b
    forth t =
        let r = any-from n (λ b. bit B b && F E n B k b K) t in
        let q = T_and (bit B r.0) (F E n B k r.0 K) r.2 in
        (r.0, q.0, pass-steps E n B K k r.0 q.1)

    back : ((b : ℕ) × T (bit B b) × Pass E B K k b) → T (any n (λ b. bit B b && F E n B k b K))
    back r =
        any-to n (λ b. bit B b && F E n B k b K) r.0 (low r.0 r.1)
        (and_T (bit B r.0) (F E n B k r.0 K) r.1 (steps-pass E n B K source meets k r.0 r.2))

module _ {E : ℕ → ℕ → Bool} {n C : ℕ} (low : EdgesBelow E n) (comp : Component E C) where
  pub inside-source : (u w : ℕ) → T (inside E C u w) → u < n
  inside-source u w e = (low u w (inside-edge E C u w e).2).0

  -- the cycle function of a component is 1 exactly where the kept ones hold a loop of it
  pub cycle-loop : (K : ℕ) → T (cycle E n C K) ↔ Loop (inside E C) (bit K)
  cycle-loop K =
      let B : ℕ = back_of E n C in
      let bs : List ℕ = each n (bit B) in
      let r : T (result (inside E C) n B (length bs) K) ↔ ((v : ℕ) × Walk (inside E C) (bit K) v v) =
      result-walk (inside E C) n B K inside-source (back-meets low comp) bs (λ b t. each_to n (bit B) b (back-lt low comp b t) t) (back-lt low comp) in
      Iff.trans (subst (λ k. T (result (inside E C) n B k K) ↔ ((v : ℕ) × Walk (inside E C) (bit K) v v)) (each-ones n B (back_fits low comp)) r)
      (Iff.symm (loop-iff (inside E C) (bit K)))

-- a graph holds a loop exactly where one of its components does
pub loop-parts : {E : ℕ → ℕ → Bool} {n : ℕ} {Cs : List ℕ} → EdgesBelow E n → Components E Cs → (K : ℕ → Bool)
    → Loop E K ↔ ((C : ℕ) × Of C Cs × Loop (inside E C) K)
loop-parts {E} {n} {Cs} low comps K = (forth, back)
  where
    forth : Loop E K → (C : ℕ) × Of C Cs × Loop (inside E C) K
    forth l =
        let p = (loop-iff E K).0 l in
        let r = (components-parted comps low).covers K p.0 p.1 in
        (r.0, r.1, (loop-iff (inside E r.0) K).1 (p.0, r.2))

    back : ((C : ℕ) × Of C Cs × Loop (inside E C) K) → Loop E K
    back r =
        let p = (loop-iff (inside E r.0) K).0 r.2 in
        (loop-iff E K).1 (p.0, outside-walk E r.0 p.1)
