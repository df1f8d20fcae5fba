use Rattle.std.proofs.Common.{sym, subst}
use Rattle.hs_base.specs.Checked.{Checked}
use Rattle.plan_check.proofs.WithinLemmas.{none_checked}
use Rattle.plan_check.proofs.checked_plan.CheckedPlan.none.Goals as goal

pub of-requires-clause-checked : goal.of-requires-clause-checked
of-requires-clause-checked c = subst (Checked c.args.mission) (sym c.new-2.ensures) (none_checked c.args.mission c.requires)
