-- A step is made, or the run ends here.
use Rattle.std.proofs.Common.{refl, inl, inr, ap, subst, ◌≡◌, ◌∙◌, rules, arith}
use Rattle.std.proofs.Math.Option.{none, some}
use Rattle.masks.specs.Sets.{number}
use Rattle.reduction.specs.Rules.{next}
use Rattle.reduction.specs.Blocks.{block_of}
use Rattle.reduction.specs.Work.{block}
use Rattle.graphs.specs.Graph.{cost_of}
use Rattle.reduction.proofs.Logs.{going_more, going_end}
use Rattle.reduction.proofs.run.Goals as goal

pub returns-in_default : goal.returns-in_default
returns-in_default c =
    let h = c.in_default.ensures.advanced in
    going_end _ _ _ _ _ _ c.loop-count.invariant.going _ _ refl refl
    (ap (λ r. block (number c.step.new.self.live) (number c.step.new.self.forced) r) (search rules) ∙ h.1)
    (inr (subst (λ k. next (cost_of k) (block_of c.loop-count.state) ≡ none) c.loop-count.invariant.costs h.0))

pub loop-count-preserved : goal.loop-count-preserved
loop-count-preserved c = record {
  same_outs = search rules;
  same_ins = search rules;
  costs = search rules;
  going = going_more _ _ _ _ _ _ c.loop-count.invariant.going (block_of c.step.new.self) c.in-Some.step c.loop-count-test.true c.requires.few
      (subst (λ k. next (cost_of k) (block_of c.loop-count.state) ≡ some (record { after = block_of c.step.new.self; step = c.in-Some.step }))
      c.loop-count.invariant.costs c.in-Some.ensures.advanced);
}

pub returns : goal.returns
returns c =
    going_end _ _ _ _ _ _ c.loop-count.invariant.going _ _ (omega arith) refl
    (ap (λ r. block (number c.loop-count.state.live) (number c.loop-count.state.forced) r) (search rules)) (inl (omega arith))
