use Rattle.std.proofs.Common.{[], ap, sym, ◌∙◌, arith}
use Rattle.drill_mission.specs.Drill.{drill_horizon}
use Rattle.drill_mission.specs.Words.{after_word}
use Rattle.drill_mission.proofs.DrillLemmas.{horizon_drawn}
use Rattle.drill_mission.proofs.NumberLemmas.{push_number}
use Rattle.drill_mission.proofs.WordLemmas.{draws_two_more}
use Rattle.drill_mission.proofs.missions.horizons.Goals as goal

pub loop-before-preserved : goal.loop-before-preserved
loop-before-preserved c =
    let k = c.loop-before.before in
    let at = c.loop-before.invariant.1 in
    let drawn = horizon_drawn c.args.seed k c.loop-before.draws c.in_ok-horizon.field-0 at c.in_ok-horizon.ensures.horizon in (
      push_number (drill_horizon c.args.seed) 0 k k [] c.loop-before.horizons _ c.in_ok-horizon.field-0 (omega arith) c.loop-before.invariant.0 drawn c.in_ok-push.ensures.ok,
      c.horizon.ensures.after ∙ ap (λ g. after_word (after_word g)) at ∙ sym (draws_two_more c.args.seed k),
    )
