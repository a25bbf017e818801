-- What is known when the call begins is said of the nodes and costs as they were then: they stay the same.
use Rattle.std.proofs.Common.{arith, ap, ◌∙◌, subst}
use Rattle.nodes.specs.Codes.{level}
use Rattle.picker.specs.Work.{Walked}
use Rattle.picker.proofs.Walking.{walked-off, branching, walk-side, falls-side, lacks, small-whole, walked_whole, right-after}
use Rattle.picker.proofs.best.Walk.+best_of.Goals as goal

pub returns-in-Off-clause-told : goal.returns-in-Off-clause-told
returns-in-Off-clause-told t c = walked-off c.requires c.none.result c.in-Off.ensures c.none.ensures

pub best_of-requires : goal.best_of-requires
best_of-requires t c =
    let b = branching c.requires c.in-Branch.ensures in
    (omega (arith, falls-side c.args.self.now.few b b.low, c.decreases), walk-side c.args.self.now.few b b.low)

pub held-taken-requires-clause-priced_without_v : goal.held-taken-requires-clause-priced_without_v
held-taken-requires-clause-priced_without_v t c =
    let b = branching c.requires c.in-Branch.ensures in
    let x = c.best_of.ensures.told b.low.tree b.low.stands in
    rw c.best_of.ensures.same_costs (x.priced, lacks c.args.self.now.few b _ x)

pub best_of-requires-in-Branch : goal.best_of-requires-in-Branch
best_of-requires-in-Branch t c =
    let b = branching c.requires c.in-Branch.ensures in
    let e = c.best_of.ensures in (
      omega (arith, falls-side c.args.self.now.few b b.high, c.decreases, ap (λ ws. level ws c.in-Branch.high.0) e.same_nodes),
      rw (e.same_nodes, e.same_costs) (walk-side c.args.self.now.few b b.high),
    )

pub remember-requires-clause-small : goal.remember-requires-clause-small
remember-requires-clause-small t c =
    let b = branching c.requires c.in-Branch.ensures in
    let x = c.best_of.ensures in
    small-whole c.args.self.now.few b _ _ x.same_nodes x.same_costs x.told c.best_of-in-Branch.ensures.told c.held-taken.ensures
    c.lighter-found.ensures c.args.self.now.fit _ c.in-Some-found.is

pub invariant_of-self : goal.invariant_of-self
invariant_of-self t c =
    let b = branching c.requires c.in-Branch.ensures in
    let x = c.best_of.ensures in
    let y = c.best_of-in-Branch in
    let told =
    walked_whole c.args.self.now.few b _ _ x.same_nodes x.same_costs x.told y.ensures.told c.held-taken.ensures c.lighter-found.ensures in
    record {
      few = y.new.self.few;
      fit = y.new.self.fit;
      right =
          right-after y.new.self.nodes.words.now y.new.self.costs.now y.new.self.memo.words.now c.remember.new.self.words.now c.in-Some-found.best
          (y.ensures.same_nodes ∙ x.same_nodes) (y.ensures.same_costs ∙ x.same_costs)
          (subst (Walked c.args.self.now.nodes.words.now c.args.self.now.costs.now c.args.node.0) c.in-Some-found.is told) y.new.self.right c.remember.ensures.kept;
    }
