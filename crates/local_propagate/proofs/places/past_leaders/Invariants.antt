use Rattle.std.proofs.Common.{◌<◌, All, take}
use Rattle.local_propagate.specs.Joined.{leaders_of}
use Rattle.local_propagate.proofs.places.past_leaders.Given as goal

abbrev pub invariant-loop-group : goal.invariant-loop-group
invariant-loop-group l = All (λ a. a < l.size) (leaders_of (take l.group-index l.groups))
