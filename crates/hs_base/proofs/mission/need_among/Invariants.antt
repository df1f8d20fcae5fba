use Rattle.std.proofs.Common.{◌≡◌, ◌+◌, take, length}
use Rattle.std.specs.Prelude.{filter}
use Rattle.hs_base.specs.Needs.{same_kind}
use Rattle.hs_base.proofs.mission.need_among.Given as goal

abbrev pub invariant-loop-need : goal.invariant-loop-need
invariant-loop-need l = length (filter (λ n. same_kind n.of l.kind) (take l.need-index l.needs)) + l.left ≡ l.number
