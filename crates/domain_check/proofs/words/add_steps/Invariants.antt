use Rattle.std.proofs.Common.{◌≡◌, map, drop}
use Rattle.hs_texts.specs.MissionMeaning.{first_seen, step_word}
use Rattle.domain_check.specs.Tables.{names_in}
use Rattle.domain_check.proofs.words.add_steps.Given as goal

abbrev pub invariant-loop-step : goal.invariant-loop-step
invariant-loop-step l = first_seen (names_in l.words) (map step_word (drop l.step-index l.steps)) ≡ first_seen (names_in l.fn.words) (map step_word l.steps)
