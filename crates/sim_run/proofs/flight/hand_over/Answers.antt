use Rattle.std.proofs.Common.{◌∙◌}
use Rattle.sim_run.proofs.LaunchLemmas.{launched, taken_at_first}
use Rattle.sim_run.proofs.flight.hand_over.Goals as goal

pub returns-in-Done : goal.returns-in-Done
returns-in-Done c =
    launched c.args.plan c.in_ok-offer.offer.plan c.args.exec.now c.hand_over.new.self c.hand_over.result
    c.requires.checked c.requires.one (c.in_ok-offer.ensures.plan ∙ c.in_ok-reform.ensures.plan) c.requires.begun c.hand_over.ensures.mission c.hand_over.ensures.turn c.in-Done.is

pub unreachable-requires : goal.unreachable-requires
unreachable-requires c =
    taken_at_first c.args.plan c.in_ok-offer.offer.plan c.args.exec.now c.hand_over.new.self 0 c.hand_over.result
    c.requires.checked c.requires.one (c.in_ok-offer.ensures.plan ∙ c.in_ok-reform.ensures.plan) c.requires.begun c.hand_over.ensures.turn c.in_default.not-Done c.in_default.not-Memory
