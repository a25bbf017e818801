-- The record of the code as the block under reduction of Rules. Assumes nothing.
use Rattle.masks.specs.Sets.{number}
use Rattle.reduction.specs.declared.state.State as code
use Rattle.reduction.specs.Rules.{State}

abbrev pub block_of : code.State → State
block_of s = record { live = number s.live; forced = number s.forced; rows = s.outs.now }
