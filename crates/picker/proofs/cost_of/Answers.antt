use Rattle.std.proofs.Common.{◌≡◌, Bool, ℕ, ◌+◌, ◌^◌, refl, sym, ◌∙◌, arith}
use native.Mathlib.Numerals.{add-one}
use Rattle.masks.specs.Sets.{pick, bit, number, weight}
use Rattle.masks.proofs.Weights.{weight-most}
use Rattle.graphs.specs.Graph.{cost_of}
use Rattle.picker.proofs.cost_of.Goals as goal
use Rattle.picker.proofs.cost_of.Goals.{then-has, else-has}

weight-next : (c : ℕ → ℕ) (v S : ℕ) (x : Bool) → bit S v ≡ x → weight c (v + 1) S ≡ weight c v S + pick x (c v) 0
unfolding weight
weight-next c v S x e = rw (add-one v, e) refl

pub loop-v-init : goal.loop-v-init
unfolding weight
loop-v-init c = refl

pub overflow_add-total : goal.overflow_add-total
overflow_add-total c =
    omega (
      arith,
      c.type_inv.costs c.loop-v.v,
      weight-most (cost_of c.args.costs.now) (number c.args.set) (2 ^ 32) (λ v. omega (arith, c.type_inv.costs v)) c.loop-v.v,
    )

pub loop-v-preserved : goal.loop-v-preserved
loop-v-preserved c =
    let next = weight-next (cost_of c.args.costs.now) c.loop-v.v (number c.args.set) in
    elim c.if-has.branch [
      | then-has w ↦ omega (arith, w.total-is, w.from-total.ensures, next _ (sym c.has.ensures ∙ w.if-has.true), c.loop-v.invariant)
      | else-has w ↦ omega (arith, w.total-is, next _ (sym c.has.ensures ∙ w.if-has.false), c.loop-v.invariant)
    ]
