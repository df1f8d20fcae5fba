use Rattle.std.proofs.lemmas.Option.{slice_get_within}
use Rattle.plan_laws.proofs.ChainLemmas.{chained, has_tokens, timeline_is}
use Rattle.plan_laws.proofs.timelines.a_schedule_makes_linked_timelines.Goals as goal

pub returns : goal.returns
returns c = λ m es s p some h v var is. timeline_is m es s v var is h.origin (chained m es p.rules) (has_tokens m es p.rules some v (slice_get_within m.vars v var is))
