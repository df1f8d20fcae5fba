use Rattle.hs_texts.specs.PlanSpelling.{KindMeans, unknown_in_kind}
use Rattle.plan_text.proofs.NamingLemmas.{LookedUp}
use Rattle.plan_text.proofs.naming.kinds_of.Given as goal

abbrev pub invariant-loop-kind : goal.invariant-loop-kind
invariant-loop-kind l = LookedUp (KindMeans l.mission) (unknown_in_kind l.mission) l.written l.kind-index l.kinds
