use Rattle.std.proofs.Common.{[], subst}
use Rattle.std.proofs.lemmas.Result.{err_from_is_err_and}
use Rattle.hs_base.specs.Checked.{joined, KeepsRules}
use Rattle.hs_base.specs.Faults.{IsFault}
use Rattle.base_laws.proofs.ListLemmas.{EachAfter-more}
use Rattle.plan_laws.proofs.FaultLemmas.{not_checked}
use Rattle.plan_check.specs.Planned.{Planned}
use Rattle.plan_check.specs.Scheduling.{IsCycleFault}
use Rattle.plan_check.proofs.CheckLemmas.{cycle_excludes, cycle_fault}
use Rattle.plan_check.proofs.checker.Checker.check.Goals as goal

pub returns-in_err-check_rules-clause-refused : goal.returns-in_err-check_rules-clause-refused
returns-in_err-check_rules-clause-refused c =
    let base = c.args.self in
    let e = c.args.extension in
    let f = c.in_err-check_rules.field-0.0 in
    let fault : IsFault base.mission base.plan.extensions e f = subst (λ (p : Planned). IsFault p.mission p.plan.extensions e f) c.self.view_is c.in_err-check_rules.ensures.fault in
    let p = err_from_is_err_and c.from_residual.result c.from_residual.ensures.1 in
    rw (p.1, p.2) (λ some. not_checked base.mission base.plan.extensions e f some fault)

pub check_schedule-requires-clause-rules : goal.check_schedule-requires-clause-rules
check_schedule-requires-clause-rules c = EachAfter-more (KeepsRules c.self.inside.mission) [] c.self.inside.plan.extensions c.args.extension c.self.invariant.indexed.checked.rules c.in_ok-check_rules.ensures.kept

pub returns-in_err-check_schedule-clause-fault : goal.returns-in_err-check_schedule-clause-fault
returns-in_err-check_schedule-clause-fault c =
    let base = c.args.self in
    let inside = c.self.inside in
    let e = c.args.extension in
    let f = c.in_err-check_schedule.field-0.0 in
    let fault : IsFault base.mission base.plan.extensions e f = subst (λ (p : Planned). IsFault p.mission p.plan.extensions e f) c.self.view_is (cycle_fault inside.mission inside.plan.extensions e f c.in_ok-check_rules.ensures.kept c.in_err-check_schedule.ensures.cycle) in
    let p = err_from_is_err_and c.from_residual-in_err-check_schedule.result c.from_residual-in_err-check_schedule.ensures.1 in
    rw (p.1, p.2) fault

pub returns-in_err-check_schedule-clause-refused : goal.returns-in_err-check_schedule-clause-refused
returns-in_err-check_schedule-clause-refused c =
    let base = c.args.self in
    let e = c.args.extension in
    let f = c.in_err-check_schedule.field-0.0 in
    let cycle : IsCycleFault base.mission (joined base.plan.extensions e) f = subst (λ (p : Planned). IsCycleFault p.mission (joined p.plan.extensions e) f) c.self.view_is c.in_err-check_schedule.ensures.cycle in
    let p = err_from_is_err_and c.from_residual-in_err-check_schedule.result c.from_residual-in_err-check_schedule.ensures.1 in
    rw (p.1, p.2) (λ some. cycle_excludes base.mission (joined base.plan.extensions e) f cycle some)
