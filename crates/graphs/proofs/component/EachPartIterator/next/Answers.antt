-- The set around the next one that leads is the first to come.
use Rattle.std.proofs.Common.{refl, ◌∙◌, sym, ap, subst, arith, length}
use Rattle.graphs.specs.Coming.{Coming, NextPart}
use Rattle.graphs.proofs.Coming.{coming-none, coming-next, coming-component, coming-lowest}
use Rattle.graphs.proofs.component.EachPartIterator.next.Goals as goal

pub returns-in_err-lowest-clause-steps : goal.returns-in_err-lowest-clause-steps
returns-in_err-lowest-clause-steps c =
    let none = ap (λ (k : Coming). k.left) (sym c.self.view_is)
    ∙ coming-none _ _ c.self.inside.graph.sound c.self.invariant _ _ c.len.ensures (c.in_err-lowest.ensures _ c.self.invariant) in
    subst (λ r. NextPart c.args.self.now r c.args.self.now) (sym c.from_residual.ensures) ((none, none), refl, tt)

pub invariant_of-result : goal.invariant_of-result
invariant_of-result c =
    let next = c.in_ok-lowest.ensures _ c.self.invariant in
    let around = c.component_around-members.ensures _ c.self.invariant in
    record {
      whole = ∣ coming-component _ _ c.self.inside.graph.sound c.self.invariant _ _ c.len.ensures _ next _ around ∣₁;
      led = coming-lowest _ _ c.self.inside.graph.sound c.self.invariant _ _ c.len.ensures _ next _ around;
    }

pub returns-clause-steps : goal.returns-clause-steps
returns-clause-steps c =
    let next = c.in_ok-lowest.ensures _ c.self.invariant in
    let around = c.component_around-members.ensures _ c.self.invariant in (
      ap (λ (k : Coming). k.left) (sym c.self.view_is)
          ∙ coming-next _ _ c.self.inside.graph.sound c.self.invariant _ _ c.len.ensures _ next _ around,
      ap (λ (k : Coming). k.rows) c.self.view_is,
      ap (λ (k : Coming). k.rows) c.self.view_is,
    )

pub returns-clause-goes : goal.returns-clause-goes
returns-clause-goes c =
    let next = c.in_ok-lowest.ensures _ c.self.invariant in
    let around = c.component_around-members.ensures _ c.self.invariant in
    let m = ap length (ap (λ (k : Coming). k.left) (sym c.self.view_is)
    ∙ coming-next _ _ c.self.inside.graph.sound c.self.invariant _ _ c.len.ensures _ next _ around) in
    record { on = λ _. (tt, tt, omega (arith, m)); keeps = tt; rests = λ _. tt }
