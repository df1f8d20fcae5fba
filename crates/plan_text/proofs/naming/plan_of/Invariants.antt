use Rattle.plan_text.proofs.PlanLemmas.{PlanLookedUp}
use Rattle.plan_text.proofs.naming.plan_of.Given as goal

abbrev pub invariant-loop-one : goal.invariant-loop-one
invariant-loop-one l = PlanLookedUp l.mission l.written l.one-index l.extensions l.index
