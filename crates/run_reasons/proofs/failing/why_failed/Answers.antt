use Rattle.std.proofs.Common.{List, subst}
use Rattle.std.specs.Prelude.{All}
use Rattle.hs_base.specs.declared.plan.Extension.{Extension}
use Rattle.hs_base.specs.Bounds.{bounds_of}
use Rattle.hs_base.specs.Points.{count}
use Rattle.hs_base.specs.Schedule.{IsBelow}
use Rattle.plan_check.specs.Reasons.{IfChain}
use Rattle.stn_distance.specs.Chains.{IsChain, IsForcedAs, IsWhy}
use Rattle.stn_distance.specs.declared.why.Why.{Why}
use Rattle.run_reasons.proofs.ReasonLemmas.{forced_here, in_range}
use Rattle.run_reasons.proofs.failing.why_failed.Goals as goal

pub reason-requires-clause-bound : goal.reason-requires-clause-bound
reason-requires-clause-bound c = in_range c.args.plan.now.mission c.args.history.now c.in-Some.bound c.requires.run c.in-Some.ensures c.args.plan.now.plan.extensions c.requires.plan

pub reason-requires-clause-apart : goal.reason-requires-clause-apart
reason-requires-clause-apart c = (forced_here c.args.plan.now.mission c.args.history.now c.in-Some.bound c.requires.run c.in-Some.ensures c.args.plan.now.plan.extensions c.requires.plan).apart

pub unreachable-requires : goal.unreachable-requires
unreachable-requires c =
    let m = c.args.plan.now.mission in
    let es = c.args.plan.now.plan.extensions in
    let b = c.in-Some.bound in
    let forced = forced_here m c.args.history.now b c.requires.run c.in-Some.ensures es c.requires.plan in
    (subst (IsForcedAs (bounds_of m es) b) c.in-Free.is c.in_ok-chain.ensures.forced) forced.tight.implied

pub returns-clause-chain : goal.returns-clause-chain
returns-clause-chain c =
    let m = c.args.plan.now.mission in
    let es = c.args.plan.now.plan.extensions in
    let b = c.in-Some.bound in
    let chain : IsChain (bounds_of m es) b c.in-Chain.chain = subst (IsWhy (count es) (bounds_of m es) b) c.in-Chain.is c.in_ok-chain.ensures.why in
    record {
      bound = b;
      failed = c.in-Some.ensures;
      forces = subst (λ (l : List Extension). IsChain (bounds_of m l) b c.in-Chain.chain) c.requires.plan chain;
    }

pub returns-clause-points : goal.returns-clause-points
returns-clause-points c = subst (λ (why : Why). IfChain why (All (IsBelow (count c.args.plan.now.plan.extensions)))) c.in-Chain.is c.in_ok-chain.ensures.points
