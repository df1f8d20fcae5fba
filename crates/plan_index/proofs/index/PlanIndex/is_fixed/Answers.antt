use Rattle.std.proofs.Common.{◌∙◌, ap}
use Rattle.plan_index.specs.Contents.{Contents}
use Rattle.plan_index.specs.Named.{has_time}
use Rattle.plan_index.proofs.IndexLemmas.{has_time-of}
use Rattle.plan_index.proofs.index.PlanIndex.is_fixed.Goals as goal

pub returns-clause-plan : goal.returns-clause-plan
returns-clause-plan c = λ es is. c.flag.ensures ∙ c.self.invariant.flags c.args.point.0 ∙ ap (λ (x : Contents). has_time x.fixed c.args.point.0) (c.self.view_is ∙ is) ∙ has_time-of es c.args.point.0
