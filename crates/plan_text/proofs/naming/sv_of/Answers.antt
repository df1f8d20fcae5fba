use Rattle.std.proofs.Common.{ap, sym, ◌∙◌}
use Rattle.plan_text.specs.SoFar.{variable_at}
use Rattle.plan_text.proofs.NamingLemmas.{sv_found, sv_missing}
use Rattle.plan_text.proofs.naming.sv_of.Goals as goal

pub returns-in_ok-number_of-in-Some : goal.returns-in_ok-number_of-in-Some
returns-in_ok-number_of-in-Some c = sv_found c.args.mission.now c.args.name.now c.in-Some.sv c.in_ok-number_of-in-Some.field-0 (ap (λ vs. variable_at vs c.args.name.now) (sym c.as_slice.ensures) ∙ sym c.variable_at.ensures ∙ c.in-Some.is) c.in_ok-number_of-in-Some.ensures

pub returns-in_ok-copy-in-None : goal.returns-in_ok-copy-in-None
returns-in_ok-copy-in-None c = sv_missing c.args.mission.now c.args.name.now c.in_ok-copy-in-None.field-0 (ap (λ vs. variable_at vs c.args.name.now) (sym c.as_slice.ensures) ∙ sym c.variable_at.ensures ∙ c.in-None.is) c.in_ok-copy-in-None.ensures
