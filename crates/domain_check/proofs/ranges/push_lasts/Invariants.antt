use Rattle.std.proofs.Common.{◌≡◌, ◌++◌, map, take}
use Rattle.hs_texts.specs.MissionRefusals.{is_no_duration}
use Rattle.domain_check.proofs.ranges.push_lasts.Given as goal

abbrev pub invariant-loop-range : goal.invariant-loop-range
invariant-loop-range l = l.bad ≡ l.fn.bad ++ map is_no_duration (take l.range-index l.ranges)
