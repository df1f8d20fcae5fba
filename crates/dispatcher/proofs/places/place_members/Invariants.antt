use Rattle.std.proofs.Common.{◌≡◌, take, All}
use Rattle.std.specs.List.{fold}
use Rattle.dispatcher.specs.Places.{IsSmall, placed}
use Rattle.dispatcher.proofs.places.place_members.Given as goal

abbrev pub invariant-loop-k : goal.invariant-loop-k
invariant-loop-k l = record {
  places : l.places ≡ fold (placed l.number) l.initial.places (take l.k l.members);
  small : All IsSmall (take l.k l.members);
}
