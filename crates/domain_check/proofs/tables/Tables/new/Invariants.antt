use Rattle.std.proofs.Common.{◌≡◌, [], map, take, drop}
use Rattle.hs_base.specs.Walks.{join_after}
use Rattle.hs_texts.specs.MissionRefusals.{var_again}
use Rattle.domain_check.specs.Tables.{names_in}
use Rattle.hs_texts.specs.MissionMeaning.{var_names, value_names}
use Rattle.domain_check.proofs.tables.Tables.new.Given as goal

abbrev pub invariant-loop-var : goal.invariant-loop-var
invariant-loop-var l = (join_after var_again [] l.written ≡ join_after var_again (take l.var-index l.written) (drop l.var-index l.written)) × (names_in l.vars ≡ var_names (take l.var-index l.written)) × (map names_in l.values ≡ map value_names (take l.var-index l.written))
