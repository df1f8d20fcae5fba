use Rattle.std.proofs.Common.{sym, ◌∙◌}
use Rattle.std.proofs.lemmas.Bool.{eqb-true, eq-eqb}
use Rattle.plan_check.proofs.LineLemmas.{stands_after, follows_last, stands_first, is_first}
use Rattle.plan_check.proofs.order.may_stand_behind.Goals as goal

pub returns-in-Some : goal.returns-in-Some
returns-in-Some c = λ row is.
    let last = sym is ∙ c.in-Some.is in (
      λ yes_is. stands_after c.args.var.now row c.in-Some.before c.args.value.0 last (c.may_follow.ensures.0 yes_is),
      λ h. c.may_follow.ensures.1 (follows_last c.args.var.now row c.in-Some.before c.args.value.0 last h),
    )

pub returns-in-None : goal.returns-in-None
returns-in-None c = λ row is.
    let none = sym is ∙ c.in-None.is in (
      λ yes_is. stands_first c.args.var.now row c.args.value.0 none (eqb-true _ _ yes_is),
      λ h. eq-eqb c.args.value.0 c.args.var.now.begin.0 (is_first c.args.var.now row c.args.value.0 none h),
    )
