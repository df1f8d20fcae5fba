use Rattle.std.proofs.Common.{◌≡◌, [], ◌∷◌, take, drop, cond, length}
use Rattle.hs_base.specs.Walks.{join_after}
use Rattle.hs_texts.specs.MissionRefusals.{places, asks_itself}
use Rattle.domain_check.proofs.needs.check_variables.Given as goal

abbrev pub invariant-loop-i : goal.invariant-loop-i
invariant-loop-i l = places asks_itself l.needs ≡ join_after (λ before x. cond (asks_itself x) (length before ∷ []) []) (take l.i l.needs) (drop l.i l.needs)
