use Rattle.std.proofs.Common.{◌∙◌, sym}
use Rattle.dispatcher.proofs.waits.waits_of.Goals as goal

pub wait-requires-clause-group : goal.wait-requires-clause-group
wait-requires-clause-group c = λ t is. c.requires.set _ t (sym c.time-group.ensures ∙ is)
