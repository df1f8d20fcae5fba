use Rattle.std.proofs.Common.{◌≡◌, drop}
use Rattle.std.specs.Prelude.{filter}
use Rattle.hs_texts.specs.MissionMeaning.{var_names}
use Rattle.hs_texts.specs.MissionRefusals.{lacks_begin}
use Rattle.domain_check.proofs.begins.check_begins.Given as goal

abbrev pub invariant-loop-var : goal.invariant-loop-var
invariant-loop-var l = var_names (filter lacks_begin l.vars) ≡ var_names (filter lacks_begin (drop l.var-index l.vars))
