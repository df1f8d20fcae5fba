use Rattle.hs_texts.specs.PlanSpelling.{SupportMeans, unknown_in_support}
use Rattle.plan_text.proofs.NamingLemmas.{LookedUp}
use Rattle.plan_text.proofs.naming.supports_of.Given as goal

abbrev pub invariant-loop-support : goal.invariant-loop-support
invariant-loop-support l = LookedUp (SupportMeans l.mission) (unknown_in_support l.mission) l.written l.support-index l.supports
