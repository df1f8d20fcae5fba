use Rattle.domain_check.specs.Numbering.{mission_of}
use Rattle.domain_check.proofs.AcceptanceLemmas.{meant}
use Rattle.domain_check.proofs.RefusedLemmas.{kept}
use Rattle.domain_check.proofs.RuleLemmas.{keeps_rules, none_refused}
use Rattle.domain_check.proofs.laws.a_mission_is_meant_where_no_rule_is_broken.Goals as goal

pub returns-clause-meant : goal.returns-clause-meant
returns-clause-meant c = λ a w h. (mission_of a, meant a w (keeps_rules a h))

pub returns-clause-refused : goal.returns-clause-refused
returns-clause-refused c = λ a m h. none_refused a (kept a m h)
