-- What the contracts of private functions say: no part of a promise. Assumes nothing.
use Rattle.std.specs.Prelude.{◌<◌}
use Rattle.reduction.specs.declared.Step.{Step}
use Rattle.scanpick_c.specs.Promise.{neighbour}

-- a step of a block with at most 64 flip-flops
pub record Small (s : Step) : Type 0 where
  pub flop : s.vertex.0 < 64
  pub beside : neighbour s.done < 64
