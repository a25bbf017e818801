-- The first position that holds a member is the lowest, and what is left then is the set without it.
use Rattle.std.proofs.Common.{◌≡◌, ℕ, length, arith, refl, sym, subst, ◌∙◌, ap}
use Rattle.masks.specs.Sets.{number}
use Rattle.masks.specs.Walk.{members_of, IsLowestOf, IsPast}
use Rattle.masks.proofs.Listing.{turn-taken, turn_past, turn-over, turn-none, members-none, members-taken}
use Rattle.masks.proofs.walk.MembersIterator.next.Goals as goal

pub loop-v-init : goal.loop-v-init
loop-v-init c = (refl, subst (λ (m : ℕ). IsPast m c.self.inside.from) (sym c.of-left.ensures) c.self.invariant)

pub loop-v-preserved : goal.loop-v-preserved
loop-v-preserved c = (
  c.loop-v.invariant.0,
  turn-over (number c.of-left.result) c.loop-v.v c.loop-v.invariant.1 c.loop-v-test.true (sym c.has.ensures ∙ c.if-has.false),
)

pub invariant_of-self : goal.invariant_of-self
invariant_of-self c = subst (λ s. IsPast s.left s.from) (sym c.loop-v.invariant.0) c.self.invariant

pub invariant_of-self-then-has : goal.invariant_of-self-then-has
invariant_of-self-then-has c =
    turn_past (number c.of-left.result) c.loop-v.v c.word-self-inside.result c.loop-v.invariant.1 c.loop-v-test.true (c.word-self-inside.ensures ∙ c.cut.ensures)

pub returns-then-has-clause-steps : goal.returns-then-has-clause-steps
returns-then-has-clause-steps c =
    let h : IsLowestOf c.args.self.now c.loop-v.v c.word-self-inside.result =
    turn-taken (number c.of-left.result) _ _ _ (c.of-left.ensures ∙ c.self.view_is) c.loop-v.invariant.1 c.loop-v-test.true (sym c.has.ensures ∙ c.if-has.true)
    (c.word-self-inside.ensures ∙ c.cut.ensures) in
    (members-taken h, h)

pub returns-then-has-clause-goes : goal.returns-then-has-clause-goes
returns-then-has-clause-goes c =
    let h : IsLowestOf c.args.self.now c.loop-v.v c.word-self-inside.result =
    turn-taken (number c.of-left.result) _ _ _ (c.of-left.ensures ∙ c.self.view_is) c.loop-v.invariant.1 c.loop-v-test.true (sym c.has.ensures ∙ c.if-has.true)
    (c.word-self-inside.ensures ∙ c.cut.ensures) in
    let m = ap length (members-taken h) in
    record { on = λ _. (tt, tt, omega (arith, m)); keeps = tt; rests = λ _. tt }

pub returns-clause-steps : goal.returns-clause-steps
returns-clause-steps c =
    let z : number c.of-left.result ≡ 0 = turn-none _ c.loop-v.v c.loop-v.invariant.1 c.loop-v-test.false (omega (arith, c.of-left.ensures)) in
    let before : c.args.self.now ≡ 0 = sym (c.of-left.ensures ∙ c.self.view_is) ∙ z in
    let after : c.loop-v.self-inside.left ≡ 0 = ap (λ s. s.left) c.loop-v.invariant.0 ∙ sym c.of-left.ensures ∙ z in
    let none = members-none 64 0 in
    ((ap members_of before ∙ none, ap members_of after ∙ none), (before, after))
