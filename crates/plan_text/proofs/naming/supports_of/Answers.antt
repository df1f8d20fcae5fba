use Rattle.std.proofs.lemmas.Result.{err_from_is_err_and}
use Rattle.plan_text.proofs.NamingLemmas.{looked_push, unknown_item}
use Rattle.plan_text.proofs.naming.supports_of.Goals as goal

pub returns-in_err-support_of : goal.returns-in_err-support_of
returns-in_err-support_of c =
    let p = err_from_is_err_and c.from_residual.result c.from_residual.ensures.1 in
    rw (p.1, p.2) (unknown_item _ c.args.written.now c.loop-support.support-index c.support-item.result _ c.loop-support.invariant.known c.loop-support-test.true c.support-item.is c.in_err-support_of.ensures)

pub loop-support-preserved : goal.loop-support-preserved
loop-support-preserved c = looked_push _ _ c.args.written.now c.loop-support.support-index _ c.support-item.result c.in_ok-support_of.field-0 _ c.loop-support.invariant c.loop-support-test.true c.support-item.is c.in_ok-support_of.ensures c.in_ok-push.ensures.ok
