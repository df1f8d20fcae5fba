use Rattle.std.proofs.Common.{ap}
use Rattle.plan_check.specs.Claimed.{is_claimed, is_for, same_claim}
use Rattle.plan_check.specs.declared.claims.Claim.{Claim}
use Rattle.plan_check.proofs.SupportLemmas.{claims_push}
use Rattle.plan_check.proofs.claims.Claims.insert.Goals as goal

pub returns-in-Ok-clause-claims : goal.returns-in-Ok-clause-claims
returns-in-Ok-clause-claims c = λ before h t i.
    let q : Claim = record { sv = t.sv.0; place = t.place; need = i } in
    claims_push (is_for t i) before c.args.support.now (is_claimed c.insert.new.self t i) (same_claim c.claim_of.result q) (is_claimed c.args.self.now.set t i) (c.in-Ok.ensures.updates.0 q) (h t i) (ap (λ k. same_claim k q) c.claim_of.ensures)
