use Rattle.std.proofs.lemmas.Result.{err_from_is_err_and}
use Rattle.plan_text.proofs.NamingLemmas.{looked_push, unknown_item}
use Rattle.plan_text.proofs.naming.tokens_of.Goals as goal

pub returns-in_err-token_of : goal.returns-in_err-token_of
returns-in_err-token_of c =
    let p = err_from_is_err_and c.from_residual.result c.from_residual.ensures.1 in
    rw (p.1, p.2) (unknown_item _ c.args.written.now c.loop-token.token-index c.token-item.result _ c.loop-token.invariant.known c.loop-token-test.true c.token-item.is c.in_err-token_of.ensures)

pub loop-token-preserved : goal.loop-token-preserved
loop-token-preserved c = looked_push _ _ c.args.written.now c.loop-token.token-index _ c.token-item.result c.in_ok-token_of.field-0 _ c.loop-token.invariant c.loop-token-test.true c.token-item.is c.in_ok-token_of.ensures c.in_ok-push.ensures.ok
