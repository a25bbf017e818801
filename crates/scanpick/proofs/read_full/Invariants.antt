-- The bytes read so far stand at the front.
use Rattle.std.proofs.Common.{length, take, ◌-◌, ◌≤◌}
use Rattle.std.specs.Io.KnownBytes.{Consumes}
use Rattle.scanpick.proofs.read_full.Given as goal

abbrev pub invariant-loop-length : goal.invariant-loop-length
invariant-loop-length g l =
    (l.length ≤ length l.file) × Consumes (g.R.Read.remaining l.initial.input) (g.R.Read.remaining l.input) (take l.length l.file)

abbrev pub decreases-loop-length : goal.decreases-loop-length
decreases-loop-length g l = length l.initial.file - l.length
