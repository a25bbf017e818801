use Rattle.std.proofs.Common.{subst, arith}
use Rattle.graphs.specs.Work.{Leads}
use Rattle.graphs.proofs.component.next_component.Goals as goal

pub returns-then-leads : goal.returns-then-leads
returns-then-leads c E right = record {
  inner = (omega (arith, c.loop-v.invariant.0), c.loop-v-test.true);
  leads = subst (Leads E _) c.if-leads.true (c.leads.ensures E right);
  passed = c.loop-v.invariant.1 E right;
}

pub returns : goal.returns
returns c E right u C k l = c.loop-v.invariant.1 E right u C k (omega arith)
