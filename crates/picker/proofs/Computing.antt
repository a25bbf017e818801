-- What the model of `pick` computes by, under one name: an answer is computed by `refl` where `unfolding computing` stands. Assumes nothing.
use Rattle.masks.specs.Sets.{weight}
use Rattle.reduction.specs.Rules.{next, run}
use Rattle.trees.specs.Best.{as_light}
use Rattle.cycles.proofs.Blocks.{computed}
use Rattle.picker.proofs.Picks.{best_of}
use Rattle.picker.proofs.Model.{pick_model}

-- to unfold it is to unfold all that its line names, what the model of `ask` computes by too
unfoldable pub computing : Unit {0}
unfolding computed run next weight as_light best_of pick_model
computing = tt
