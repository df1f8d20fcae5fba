use Rattle.std.proofs.Common.{◌≡◌, [], ◌∷◌, take, drop, cond, length}
use Rattle.hs_base.specs.Walks.{join_after}
use Rattle.hs_texts.specs.MissionRefusals.{places}
use Rattle.domain_check.proofs.ranges.check_flags.Given as goal

abbrev pub invariant-loop-i : goal.invariant-loop-i
invariant-loop-i l = places (λ bad. bad) l.bad ≡ join_after (λ before x. cond x (length before ∷ []) []) (take l.i l.bad) (drop l.i l.bad)
