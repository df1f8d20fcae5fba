use Rattle.std.proofs.Common.{◌≡◌, take, length}
use Rattle.hs_base.proofs.list.ListSame.same.Given as goal

abbrev pub invariant-loop-i : goal.invariant-loop-i
invariant-loop-i g l = (take l.i l.self ≡ take l.i l.other) × (length l.self ≡ length l.other) × (l.ours ≡ l.self) × (l.theirs ≡ l.other)
