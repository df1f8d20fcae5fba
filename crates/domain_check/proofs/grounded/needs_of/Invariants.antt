use Rattle.std.proofs.Common.{◌≡◌, map, take}
use Rattle.domain_check.specs.Numbering.{need_of}
use Rattle.domain_check.proofs.grounded.needs_of.Given as goal

abbrev pub invariant-loop-need : goal.invariant-loop-need
invariant-loop-need l = l.made ≡ map (need_of l.tables.written.now) (take l.need-index l.needs)
