use Rattle.std.proofs.Common.{length, ap, ◌∙◌, arith}
use Rattle.hs_base.specs.declared.plan.Plan.{Plan}
use Rattle.plan_check.proofs.WithinLemmas.{few_extensions}
use Rattle.exec_core.proofs.exec.Exec.newest.Goals as goal

pub returns-in-Some-clause-few : goal.returns-in-Some-clause-few
returns-in-Some-clause-few c =
    let p = c.in-Some.flight.plan in
    let k = c.plan.ensures.checked in
    omega (arith, few_extensions p.mission k.mission p.plan.extensions k.rules, ap length (c.as_slice.ensures ∙ ap (λ (q : Plan). q.extensions) c.plan.ensures.plan))
