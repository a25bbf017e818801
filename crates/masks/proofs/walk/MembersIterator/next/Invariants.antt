-- No position that was passed holds a member, and nothing was taken yet.
use Rattle.std.proofs.Common.{◌≡◌}
use Rattle.masks.specs.Sets.{number}
use Rattle.masks.specs.Walk.{IsPast}
use Rattle.masks.proofs.walk.MembersIterator.next.Given as goal

abbrev pub invariant-loop-v : goal.invariant-loop-v
invariant-loop-v l = (l.self-inside ≡ l.initial.self-inside) × IsPast (number l.left) l.v
