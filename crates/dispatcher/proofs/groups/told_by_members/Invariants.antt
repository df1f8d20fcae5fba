use Rattle.std.proofs.Common.{◌≡◌, drop}
use Rattle.hs_base.specs.Dispatch.{time_by}
use Rattle.dispatcher.specs.State.{times_in}
use Rattle.dispatcher.proofs.groups.told_by_members.Given as goal

abbrev pub invariant-loop-member : goal.invariant-loop-member
invariant-loop-member l = time_by (times_in l.times) (drop l.member-index l.members) ≡ time_by (times_in l.times) l.members
