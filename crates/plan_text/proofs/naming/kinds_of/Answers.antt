use Rattle.std.proofs.lemmas.Result.{err_from_is_err_and}
use Rattle.plan_text.proofs.NamingLemmas.{looked_push, unknown_item}
use Rattle.plan_text.proofs.naming.kinds_of.Goals as goal

pub returns-in_err-kind_of : goal.returns-in_err-kind_of
returns-in_err-kind_of c =
    let p = err_from_is_err_and c.from_residual.result c.from_residual.ensures.1 in
    rw (p.1, p.2) (unknown_item _ c.args.written.now c.loop-kind.kind-index c.kind-item.result _ c.loop-kind.invariant.known c.loop-kind-test.true c.kind-item.is c.in_err-kind_of.ensures)

pub loop-kind-preserved : goal.loop-kind-preserved
loop-kind-preserved c = looked_push _ _ c.args.written.now c.loop-kind.kind-index _ c.kind-item.result c.in_ok-kind_of.field-0 _ c.loop-kind.invariant c.loop-kind-test.true c.kind-item.is c.in_ok-kind_of.ensures c.in_ok-push.ensures.ok
