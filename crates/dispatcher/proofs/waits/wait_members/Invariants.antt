use Rattle.std.proofs.Common.{◌≡◌, length, take}
use Rattle.std.specs.List.{fold}
use Rattle.dispatcher.specs.Index.{waited}
use Rattle.dispatcher.proofs.waits.wait_members.Given as goal

abbrev pub invariant-loop-member : goal.invariant-loop-member
invariant-loop-member l = record {
  size : length l.until ≡ length l.initial.until;
  until : l.until ≡ fold (waited l.at) l.initial.until (take l.member-index l.members);
}
