use Rattle.std.proofs.Common.{inr, arith}
use Rattle.exec_main.proofs.top.ground.Goals as goal

pub returns-in-Ok-clause-delivered : goal.returns-in-Ok-clause-delivered
returns-in-Ok-clause-delivered g c =
    λ request asks. inr (record {
      status = c.in-Ok.outcome.status;
      text = c.in-Ok.outcome.text;
      due = c.in-Ok.ensures.due request asks;
      written = rw c.code.ensures c.deliver.ensures.written;
    })

pub returns-in-Err-Usage-clause-usage : goal.returns-in-Err-Usage-clause-usage
returns-in-Err-Usage-clause-usage g c =
    λ _. c.in-Err-Usage.ensures.usage (grind arith)

pub returns-in-Err-Usage-clause-delivered :
    goal.returns-in-Err-Usage-clause-delivered
returns-in-Err-Usage-clause-delivered g c =
    λ request asks. absurd (c.in-Err-Usage.ensures.usage (grind arith) request asks)
