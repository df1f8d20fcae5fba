use Rattle.std.proofs.Common.{◌≡◌, drop}
use Rattle.hs_texts.specs.MissionRefusals.{asks_twice}
use Rattle.domain_check.proofs.needs.asks_twice.Given as goal

abbrev pub invariant-loop-i : goal.invariant-loop-i
invariant-loop-i l = asks_twice l.choices ≡ asks_twice (drop l.i l.choices)
