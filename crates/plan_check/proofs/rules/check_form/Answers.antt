use Rattle.std.proofs.Common.{arith}
use Rattle.plan_check.proofs.WithinLemmas.{few_points, few_extensions}
use Rattle.plan_check.proofs.rules.check_form.Goals as goal

pub check_base-requires : goal.check_base-requires
check_base-requires c = let few = few_extensions c.args.mission.now c.requires.checked.mission c.args.plan.now.extensions c.requires.checked.rules in omega (arith, few)

pub check_fixed-requires-clause-small : goal.check_fixed-requires-clause-small
check_fixed-requires-clause-small c = let few = few_points c.args.mission.now c.requires.checked.mission c.args.plan.now.extensions c.requires.checked.rules in omega (arith, few)
