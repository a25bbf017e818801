-- The row of v, or else those around v.
use Rattle.std.proofs.Common.{◌≡◌, ℕ, Bool, ◌∙◌, refl, sym, ap, subst, nat_eq, Option, Some, None}
use Rattle.std.specs.Option.{option_eq}
use Rattle.masks.specs.Sets.{bit}
use Rattle.masks.specs.Walk.{IsLowestIn}
use Rattle.masks.specs.declared.Vertex.{Vertex}
use Rattle.graphs.specs.Work.{Around, Leads}
use Rattle.graphs.proofs.InOrder.{unreached-none, leads-test, leads-empty}
use Rattle.graphs.proofs.component.leads.Goals as goal

pub returns-then-not-has : goal.returns-then-not-has
returns-then-not-has c E right =
    let a = c.args in
    unreached-none a.reached.now a.v.0 right (ap (λ (m : ℕ). bit m a.v.0) (sym c.row.ensures) ∙ sym c.has.ensures ∙ c.if-not-has.true)

-- the test of the lowest against v
compares : {E : ℕ → ℕ → Bool} (C : ℕ) (eq : Vertex → Vertex → Bool) (v : Vertex) → ((u : Vertex) → eq u v ≡ nat_eq u.0 v.0) → Around E v.0 C
    → (r : Option Vertex) → IsLowestIn C r → Leads E v.0 (option_eq eq r (Some v))
compares C eq v e a None h = leads-empty C a h
compares C eq v e a (Some u) h = leads-test C a h (eq u v) (e u)

pub returns : goal.returns
returns c E right =
    subst (Leads E c.args.v.0) (sym c.eq.ensures) (compares _ _ c.args.v (λ u. refl) (c.component_around.ensures E right) c.lowest.result c.lowest.ensures)
