use Rattle.std.proofs.Common.{◌≡◌, flat_map, drop}
use Rattle.hs_texts.specs.MissionRefusals.{unknown_in_var}
use Rattle.domain_check.proofs.unknown.check_vars.Given as goal

abbrev pub invariant-loop-i : goal.invariant-loop-i
invariant-loop-i l = flat_map unknown_in_var l.vars ≡ flat_map unknown_in_var (drop l.i l.vars)
