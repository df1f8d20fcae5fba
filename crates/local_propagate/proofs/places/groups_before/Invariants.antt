use Rattle.std.proofs.Common.{◌≡◌, map, take}
use Rattle.local_propagate.specs.Joined.{leaders_of, before_of}
use Rattle.local_propagate.proofs.places.groups_before.Given as goal

abbrev pub invariant-loop-edge : goal.invariant-loop-edge
invariant-loop-edge l = l.before ≡ map (before_of (leaders_of l.net.groups) (take l.edge-index l.edges)) (leaders_of l.net.groups)
