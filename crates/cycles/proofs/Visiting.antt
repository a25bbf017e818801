-- The visit of a flip-flop, target by target: what the loop over its targets knows, that each way of a turn goes along one edge of the definition, and that
-- the positions in between change nothing. Assumes nothing.
use mathlib.Core.Path.{◌≡◌, refl, sym, ap, ◌∙◌, subst}
use mathlib.Core.Logic.{◌≢◌, ⊎_elim}
use mathlib.Core.Bool.{Bool, true, false}
use mathlib.Core.List.{List}
use Prim.Native.Nat.{ℕ, zero, suc, ◌+◌, ◌-◌, ◌≤◌, ◌<◌}
use native.Mathlib.Omega.{arith}
use native.Mathlib.Numerals.{add-one}
use native.Mathlib.Decide.{ℕ_discrete, dec_lt}
use lib.Dec.{T}
use lib.ListN.{length}
use Rattle.std.proofs.lemmas.List.{length_push}
use Rattle.masks.specs.Sets.{bit, pick, put, number}
use Rattle.masks.specs.Walk.{IsLowestOf}
use Rattle.masks.proofs.Tests.{T_true, T_false, false-T}
use Rattle.masks.proofs.Bits.{bit-zero}
use Rattle.masks.proofs.PutCut.{in-put, in-more, in-less, cut-other, cut-from}
use Rattle.masks.proofs.Weights.{weight-new, count-le}
use Rattle.arrayvec.specs.ArrayVec.{array_vec_len}
use Rattle.graphs.specs.Graph.{edge}
use Rattle.graphs.proofs.Parts.{inside-edge}
use Rattle.cycles.specs.Work.{VisitLog, finish_l, mark_l, along_l, targets_l, visit_l, log_of, Alike, Marked, Finished, size}
use Rattle.cycles.specs.Work.{Consistent, Visitable, edges_of, visit_of, VisitDone}
use Rattle.cycles.specs.declared.search.Search.{Search}

-- ---- the definition: one edge, and positions with none

module _ (E : ℕ → ℕ → Bool) (n : ℕ) (go : ℕ → VisitLog → VisitLog) (going v : ℕ) (s : VisitLog) where
  targets-step : (w : ℕ) → targets_l E n go going v (w + 1) s ≡ along_l E n go going v w (targets_l E n go going v w s)
  unfolding targets_l
  targets-step w = ap (λ m. targets_l E n go going v m s) (add-one w)

  targets-skip : (a b : ℕ) → a ≤ b → ((x : ℕ) → a ≤ x → x < b → E v x ≡ false) → targets_l E n go going v a s ≡ targets_l E n go going v b s
  unfolding targets_l
  targets-skip a zero l h =
      let e : a ≡ 0 = omega arith in
      ap (λ m. targets_l E n go going v m s) e
  targets-skip a (suc b) l h = cases (ℕ_discrete a (suc b)) (λ k. targets-skip a b k (λ x i j. h x i (omega arith)))
    where
      cases : Dec (a ≡ suc b) → (a ≤ b → targets_l E n go going v a s ≡ targets_l E n go going v b s)
          → targets_l E n go going v a s ≡ targets_l E n go going v (suc b) s
      cases (yes e) ih = ap (λ m. targets_l E n go going v m s) e
      cases (no k) ih =
          let k' : a ≢ suc b = k in
          rw (h b (omega arith) (omega arith)) (ih (omega arith))

-- ---- the record of the code

log_is : (s : Search) (o b : ℕ) (xs : List ℕ) → number s.over ≡ o → number s.order.back ≡ b → s.order.flops.items ≡ xs
    → log_of s ≡ record { visits = record { over = o; back = b }; order = xs }
log_is s o b xs p q r = λ i. record { visits = record { over = p i; back = q i }; order = r i }

marked-log : (u : ℕ) (s r : Search) → Marked u s r → log_of r ≡ mark_l u (log_of s)
marked-log u s r m = log_is r _ _ _ (ap number m.over) m.back (ap (λ f. f.items) m.flops)

marked-held : (going u : ℕ) (s r : Search) → Marked u s r → Consistent going s → Consistent going r
marked-held going u s r m h =
    record {
      counted = rw (m.flops, m.over, m.alike.part) h.counted;
      apart = λ x t i. h.apart x t (subst (λ z. T (bit (number z) x)) m.over i);
    }

module _ (going v : ℕ) (s : Search) (inner : v < length s.part.graph.rows.now) (held : Consistent (put going v) s) where
  abbrev n : ℕ
  n = length s.part.graph.rows.now

  -- v itself is not over, so one more is listed
  finish-fresh : bit (number s.over) v ≡ false
  finish-fresh = T_false _ (held.apart v (in-put going v))

  finish-size : size n (put (number s.over) v) ≡ array_vec_len s.order.flops + 1
  finish-size = weight-new (λ x. 1) n (number s.over) v inner finish-fresh ∙ ap (λ z. z + 1) (sym held.counted)

  pub finish-room : array_vec_len s.order.flops < 64
  finish-room = omega (arith, finish-size, count-le n (put (number s.over) v), s.part.graph.sound.few)

  module _ (r : Search) (fin : Finished v s r) where
    pub finished-log : log_of r ≡ finish_l v (log_of s)
    finished-log =
        log_is r _ _ _ fin.over (ap number fin.back) fin.flops

    pub finished-held : (T (bit going v) → ⊥) → Consistent going r
    finished-held new =
        record {
          counted = rw (fin.over, fin.alike.part) (more ∙ sym finish-size);
          apart = apart;
        }
      where
        more : array_vec_len r.order.flops ≡ array_vec_len s.order.flops + 1
        more = ap length fin.flops ∙ length_push s.order.flops.items v

        apart : (x : ℕ) → T (bit going x) → T (bit (number r.over) x) → ⊥
        apart x t i =
            ⊎_elim (λ e. new (subst (λ z. T (bit going z)) e t)) (held.apart x (in-more going v x t))
            (in-less (number s.over) v x (subst (λ z. T (bit z x)) fin.over i))

pub alike-both : {s r t : Search} → Alike s r → Alike r t → Alike s t
alike-both {s} {r} {t} a b = record { part = b.part ∙ a.part }

visit-alike : (s r : Search) → Alike s r → (going : ℕ) → visit_of r going ≡ visit_of s going
visit-alike s r a going = rw a.part refl

-- ---- the loop over the targets

-- in a search: of v, where those of `on` are being visited, v with them. The targets of `left` are to come: those at or above a position, and those below it
-- were gone along
pub record Looking (v on : ℕ) (begun s : Search) (left : ℕ) : Type 0 where
  pub alike : Alike begun s
  pub at : ℕ
  pub bounded : at ≤ length begun.part.graph.rows.now
  pub ahead : (x : ℕ) → at ≤ x → bit left x ≡ edges_of begun v x
  pub behind : (x : ℕ) → x < at → T (bit left x) → ⊥
  pub log : log_of s ≡ targets_l (edges_of begun) (length begun.part.graph.rows.now) (visit_of begun on) on v at (log_of begun)
  pub held : Consistent on s

module _ (v on : ℕ) (begun : Search) where
  abbrev E : ℕ → ℕ → Bool
  E = edges_of begun

  abbrev m : ℕ
  m = length begun.part.graph.rows.now

  abbrev go : ℕ → VisitLog → VisitLog
  go = visit_of begun on

  pub look-first : (targets left : ℕ) → left ≡ targets → ((w : ℕ) → bit targets w ≡ E v w) → Consistent on begun → Looking v on begun begun left
  unfolding targets_l
  look-first targets left e row held =
      record {
        alike = record { part = refl };
        at = 0;
        bounded = omega arith;
        ahead = λ x l. ap (λ z. bit z x) e ∙ row x;
        behind = λ x l. absurd (omega arith);
        log = refl;
        held = held;
      }

  -- a turn: w is taken from `left`
  module _ (inner : (u : ℕ) → T (bit (number begun.part.members) u) → u < length begun.part.graph.rows.now) (s : Search) (w left after : ℕ)
      (taken : IsLowestOf left w after) (look : Looking v on begun s left) where
    from : look.at ≤ w
    from = go' (dec_lt w look.at)
      where
        go' : Dec (w < look.at) → look.at ≤ w
        go' (yes k) = absurd (look.behind w k taken.member)
        go' (no k) =
            let k' : ¬ (w < look.at) = k in
            omega arith

    pub target-edge : T (E v w)
    target-edge = subst T (look.ahead w from) taken.member

    pub target-member : T (bit (number begun.part.members) w)
    target-member = (inside-edge (edge begun.part.graph.rows.now) (number begun.part.members) v w target-edge).1

    module _ (r : Search) where
      turn : Alike s r → log_of r ≡ pick (bit on w) (mark_l v (log_of s)) (pick (bit (number s.over) w) (log_of s) (go w (log_of s))) → Consistent on r
          → Looking v on begun r after
      turn alike log held =
          record {
            alike = alike-both look.alike alike;
            at = w + 1;
            bounded = omega (arith, inner w target-member);
            ahead = λ x l. ap (λ z. bit z x) taken.rest ∙ cut-other left w x (omega arith) ∙ look.ahead x (omega (arith, from));
            behind = behind;
            log = log ∙ edge_on ∙ ap (along_l E m go on v w) (look.log ∙ skip) ∙ sym (targets-step E m go on v (log_of begun) w);
            held = held;
          }
        where
          behind : (x : ℕ) → x < w + 1 → T (bit after x) → ⊥
          behind x l t =
              let k = cut-from left w x (subst (λ z. T (bit z x)) taken.rest t) in
              let d : x ≢ w = k.0 in
              taken.lowest x (omega arith) k.1

          edge_on : pick (bit on w) (mark_l v (log_of s)) (pick (bit (number s.over) w) (log_of s) (go w (log_of s))) ≡ along_l E m go on v w (log_of s)
          edge_on = rw (T_true (E v w) target-edge) refl

          skip : targets_l E m go on v look.at (log_of begun) ≡ targets_l E m go on v w (log_of begun)
          skip = targets-skip E m go on v (log_of begun) look.at w from (λ x i k. sym (look.ahead x i) ∙ T_false _ (taken.lowest x k))

      pub turn-mark : bit on w ≡ true → Marked v s r → Looking v on begun r after
      turn-mark t k = turn k.alike (marked-log v s r k ∙ rw t refl) (marked-held on v s r k look.held)

      pub turn-visit : bit on w ≡ false → bit (number s.over) w ≡ false → VisitDone w on s r → Looking v on begun r after
      turn-visit t o d = turn d.alike (d.log ∙ ap (λ f. f w (log_of s)) (visit-alike begun s look.alike on) ∙ rw (t, o) refl) d.held

    pub turn-over : bit on w ≡ false → bit (number s.over) w ≡ true → Looking v on begun s after
    turn-over t o = turn s (record { part = refl }) (rw (t, o) refl) look.held

-- ---- the visit of v, from its beginning to its end

module _ (v going : ℕ) (begun : Search) (may : Visitable v going begun) where
  abbrev k : ℕ
  k = length begun.part.graph.rows.now

  may-inner : v < length begun.part.graph.rows.now
  may-inner = may.inner v may.member

  -- one more is being visited
  going-size : size k (put going v) ≡ size k going + 1
  going-size = weight-new (λ x. 1) k going v may-inner (T_false _ may.new)

  module _ (on : ℕ) (on_is_put : on ≡ put going v) where
    pub begun-held : Consistent on begun
    begun-held =
        rw on_is_put
        (record {
          counted = may.held.counted;
          apart = λ x t i. ⊎_elim (λ e. may.fresh (subst (λ z. T (bit (number begun.over) z)) e i)) (λ j. may.held.apart x j i) (in-less going v x t);
        })

    module _ (s : Search) (left : ℕ) (look : Looking v on begun s left) where
      -- the measure falls, and the visit of a target may begin
      pub going-falls : (t : ℕ) → k - size k going ≡ t → length s.part.graph.rows.now - size (length s.part.graph.rows.now) on < t
      going-falls t e = rw (look.alike.part, on_is_put) (omega (arith, going-size, count-le k (put going v)))

      pub target-may : (w after : ℕ) → IsLowestOf left w after → bit on w ≡ false → bit (number s.over) w ≡ false → Visitable w on s
      target-may w after taken t o =
          record {
            inner = rw (look.alike.part) may.inner;
            member = rw look.alike.part (target-member v on begun may.inner s w left after taken look);
            new = false-T _ t;
            fresh = false-T _ o;
            held = look.held;
          }

      held_on : Consistent (put going v) s
      held_on = subst (λ z. Consistent z s) on_is_put look.held

      inner-s : v < length s.part.graph.rows.now
      inner-s = rw look.alike.part may-inner

      pub end-room : array_vec_len s.order.flops < 64
      end-room = finish-room going v s inner-s held_on

      pub visit-done : left ≡ 0 → (r : Search) → Finished v s r → VisitDone v going begun r
      unfolding visit_l
      visit-done none r fin =
          record { alike = alike-both look.alike fin.alike; log = log; held = finished-held going v s inner-s held_on r fin may.new }
        where
          d : ℕ
          d = k - size k (put going v)

          deeper : k - size k going ≡ suc d
          deeper = omega (arith, going-size, count-le k (put going v))

          all : log_of s ≡ targets_l (edges_of begun) k (visit_l (edges_of begun) k d (put going v)) (put going v) v k (log_of begun)
          all =
              look.log ∙ targets-skip (edges_of begun) k (visit_of begun on) on v (log_of begun) look.at k look.bounded
              (λ x i j. sym (look.ahead x i) ∙ ap (λ z. bit z x) none ∙ bit-zero x)
              ∙ ap (λ z. targets_l (edges_of begun) k (visit_of begun z) z v k (log_of begun)) on_is_put

          log : log_of r ≡ visit_of begun going v (log_of begun)
          log = finished-log going v s inner-s held_on r fin ∙ ap (finish_l v) all ∙ ap (λ j. visit_l (edges_of begun) k j going v (log_of begun)) (sym deeper)
