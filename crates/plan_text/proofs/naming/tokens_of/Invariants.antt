use Rattle.hs_texts.specs.PlanSpelling.{TokenMeans, unknown_in_token}
use Rattle.plan_text.proofs.NamingLemmas.{LookedUp}
use Rattle.plan_text.proofs.naming.tokens_of.Given as goal

abbrev pub invariant-loop-token : goal.invariant-loop-token
invariant-loop-token l = LookedUp (TokenMeans l.mission) (unknown_in_token l.mission) l.written l.token-index l.tokens
