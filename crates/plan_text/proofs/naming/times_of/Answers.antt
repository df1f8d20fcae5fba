use Rattle.std.proofs.lemmas.Result.{err_from_is_err_and}
use Rattle.plan_text.proofs.NamingLemmas.{looked_push, unknown_item}
use Rattle.plan_text.proofs.naming.times_of.Goals as goal

pub returns-in_err-time_of : goal.returns-in_err-time_of
returns-in_err-time_of c = λ es h.
    let p = err_from_is_err_and c.from_residual.result c.from_residual.ensures.1 in
    rw (p.1, p.2) (unknown_item _ c.args.written.now c.loop-time.time-index c.time-item.result _ (c.loop-time.invariant es h).known c.loop-time-test.true c.time-item.is (c.in_err-time_of.ensures es h))

pub loop-time-preserved : goal.loop-time-preserved
loop-time-preserved c = λ es h. looked_push _ _ c.args.written.now c.loop-time.time-index _ c.time-item.result c.in_ok-time_of.field-0 _ (c.loop-time.invariant es h) c.loop-time-test.true c.time-item.is (c.in_ok-time_of.ensures es h) c.in_ok-push.ensures.ok
