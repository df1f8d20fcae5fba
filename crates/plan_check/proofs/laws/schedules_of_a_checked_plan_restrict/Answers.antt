use Rattle.std.proofs.Common.{[], subst}
use Rattle.hs_base.specs.Bounds.{IsScheduleOf}
use Rattle.hs_base.specs.Checked.{KeepsRules, Checked}
use Rattle.base_laws.proofs.ListLemmas.{EachAfter-push}
use Rattle.plan_laws.proofs.PlanLemmas.{restricts}
use Rattle.plan_check.proofs.laws.schedules_of_a_checked_plan_restrict.Goals as goal

pub returns : goal.returns
returns c =
    let m = c.args.plan.now.mission in
    record {
      restricts = λ es e s is h. restricts m es e s (subst (λ l. IsScheduleOf m l s) is h);
      checked = λ es e is.
          let whole = subst (Checked m) is c.plan.ensures.checked in
          record { mission = whole.mission; schedule = whole.schedule; meets = restricts m es e whole.schedule whole.meets; rules = (EachAfter-push (KeepsRules m) [] es e whole.rules).0 };
    }
