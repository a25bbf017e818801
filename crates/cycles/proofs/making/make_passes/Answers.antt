use Rattle.std.proofs.Common.{refl, ◌∙◌}
use Rattle.nodes.proofs.Ordering.{full-table}
use Rattle.cycles.proofs.Rounds.{round-none, round-ready, round-full, round-next, round-settled}
use Rattle.cycles.proofs.making.make_passes.Goals as goal

pub loop-init : goal.loop-init
loop-init c = (refl, refl, λ rows C r. round-none rows C _ _ _ _ r (full-table c.args.rooms.now.table))

pub pass-requires : goal.pass-requires
pass-requires c = (_, _, _, round-ready _ _ _ _ _ _ c.requires.2 _ _ _ (c.loop.invariant.2 _ _ c.requires.2))

pub returns-in_err-pass-clause-passes : goal.returns-in_err-pass-clause-passes
returns-in_err-pass-clause-passes c rows C r =
    round-full rows C _ _ _ _ r _ _ _ (c.loop.invariant.2 _ _ r) _ c.count-end.ensures c.loop-test.true
    _ c.pass.new.table c.pass.new.next _ c.in_err-pass.ensures.passed _ c.from_residual.ensures.0

pub loop-preserved : goal.loop-preserved
loop-preserved c = (
  c.pass.ensures.same_nodes ∙ c.loop.invariant.0,
  c.pass.ensures.same_memo ∙ c.loop.invariant.1,
  λ rows C r.
      round-next rows C _ _ _ _ r _ _ _ (c.loop.invariant.2 _ _ r) _ c.count-end.ensures c.loop-test.true
      _ _ _ _ c.in_ok-pass.ensures.passed _ _ c.settle.ensures,
)

pub returns-then-settle-clause-passes : goal.returns-then-settle-clause-passes
returns-then-settle-clause-passes c rows C r =
    round-settled rows C _ _ _ _ r _ _ _ (c.loop.invariant.2 _ _ r) _ c.count-end.ensures c.loop-test.true
    _ _ _ _ c.in_ok-pass.ensures.passed _ _ c.settle.ensures c.if-settle.true
