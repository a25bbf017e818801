-- The whole run is the steps made and then the run from what is left.
use Rattle.std.proofs.Common.{◌≡◌, length, ◌-◌, ◌^◌}
use Rattle.graphs.specs.Graph.{cost_of}
use Rattle.reduction.specs.Blocks.{block_of}
use Rattle.reduction.specs.Work.{block}
use Rattle.reduction.proofs.Logs.{Going}
use Rattle.reduction.proofs.run.Given as goal

abbrev pub invariant-loop-count : goal.invariant-loop-count
invariant-loop-count l = record {
  same_outs : l.state.outs.ghost_name ≡ l.initial.state.outs.ghost_name;
  same_ins : l.state.ins.ghost_name ≡ l.initial.state.ins.ghost_name;
  costs : l.state.costs.now ≡ l.costs;
  going : Going (cost_of l.costs) l.most (block (2 ^ length l.fn.outs - 1) 0 l.fn.outs) (block_of l.state) l.count l.steps;
}
