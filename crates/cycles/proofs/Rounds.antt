-- All passes in the node room: what is known after i of them, and that stopping after one that changed no member of B is enough. Assumes nothing.
use mathlib.Core.Path.{◌≡◌, refl, sym, ap, subst}
use mathlib.Core.Logic.{inl, inr}
use mathlib.Core.Bool.{Bool, true}
use mathlib.Core.List.{List}
use Prim.Native.Nat.{ℕ, suc, ◌+◌, ◌≤◌, ◌<◌}
use native.Mathlib.Omega.{arith}
use native.Mathlib.Numerals.{add-one}
use lib.Count.{ones}
use lib.Dec.{T}
use Rattle.std.specs.Prelude.{Result, Ok, Err, IsErr}
use Rattle.std.proofs.lemmas.Bool.{false≢true}
use Rattle.masks.specs.Sets.{bit, number}
use Rattle.nodes.specs.Codes.{Table}
use Rattle.nodes.specs.declared.Node.{Node}
use Rattle.nodes.specs.declared.Full.{Full}
use Rattle.cycles.specs.Passes.{passes}
use Rattle.cycles.specs.declared.search.Order.{Order}
use Rattle.cycles.specs.Work.{Code, Shows, Added, Settling, back_in, pass_at, listed_before, ones_at_first, Ready, Passed, PassPromise, PassesPromise}
use Rattle.cycles.proofs.Holdings.{code_one, shows_kept, added_none, added_more, lacking-more}

-- i passes are over
pub record Round (rows : List ℕ) (C i : ℕ) (ws₀ ws : List ℕ) (table : List Node) : Type 0 where
  pub within : i ≤ ones (back_in rows C)
  pub added : Added ws₀ ws (listed_before rows C i)
  pub last : Shows ws table (back_in rows C) (pass_at rows C i)

module _ (rows : List ℕ) (C : ℕ) (ws₀ : List ℕ) (order : Order) (sources : List ℕ) (variables : List Node)
    (r : Ready rows C 0 ws₀ order sources variables ones_at_first) where
  pub round-none : Table ws₀ → Round rows C 0 ws₀ ws₀ ones_at_first
  unfolding passes
  round-none t = record { within = omega arith; added = added_none t; last = r.last }

  module _ (i : ℕ) (ws : List ℕ) (table : List Node) (p : Round rows C i ws₀ ws table) where
    -- the next may begin
    pub round-ready : Ready rows C i ws order sources variables table
    round-ready = record { wired = r.wired; given = shows_kept variables C p.added.grows r.given; last = p.last }

    pub round-done : (most : ℕ) → most ≡ ones (number order.back) → most ≤ i → PassesPromise rows C ws₀ ws (Ok table)
    round-done most e l = (
      i,
      record { within = p.within; added = p.added; last = p.last; enough = inl (omega (arith, e, ap ones r.wired.searched.back, p.within)) },
    )

    -- there is another pass
    module _ (most : ℕ) (is_most : most ≡ ones (number order.back)) (more : i < most) (ws' : List ℕ) (table' next' : List Node) where
      one_more : suc i ≤ ones (back_in rows C)
      one_more = omega (arith, is_most, ap ones r.wired.searched.back)

      abbrev Promised : Result Unit Full → Type 0
      Promised x = (rows : List ℕ) (C i : ℕ) → Ready rows C i ws order sources variables table → PassPromise rows C i ws ws' table' next' x

      pub round-full : (f : Full) → Promised (Err f) → (x : Result (List Node) Full) → IsErr x → PassesPromise rows C ws₀ ws' x
      unfolding passes
      round-full f q (Ok x) e = absurd (false≢true e)
      round-full f q (Err x) e = (suc i, one_more, lacking-more p.added (q rows C i round-ready))

      module _ (u : Unit {0}) (q : Promised (Ok u)) (table'' : List Node) (y : Bool) (s : Settling (number order.back) table' next' table'' y) where
        passed : Passed rows C i ws ws' table' next'
        passed = q rows C i round-ready

        member : (b : ℕ) → T (bit (back_in rows C) b) → T (bit (number order.back) b)
        member b t = subst (λ S. T (bit S b)) (sym r.wired.searched.back) t

        next-round : Round rows C (suc i) ws₀ ws' table''
        unfolding passes
        next-round =
            record {
              within = one_more;
              added = added_more p.added passed.added;
              last = λ b t. subst (λ z. Code ws' z (pass_at rows C (suc i) b)) (sym (s.taken b (member b t))) (passed.next b t);
            }

        pub round-next : Round rows C (i + 1) ws₀ ws' table''
        round-next = subst (λ j. Round rows C j ws₀ ws' table'') (sym (add-one i)) next-round

        pub round-settled : y ≡ true → PassesPromise rows C ws₀ ws' (Ok table'')
        round-settled e = (
          suc i,
          record { within = one_more; added = next-round.added; last = next-round.last; enough = inr (i, refl, same) },
        )
          where
            same : (b : ℕ) → T (bit (back_in rows C) b) → pass_at rows C (suc i) b ≡ pass_at rows C i b
            same b t =
                code_one (passed.next b t) (subst (λ z. Code ws' z (pass_at rows C i b)) (s.stays e b (member b t)) (passed.last b t))
