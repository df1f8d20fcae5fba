use Rattle.std.proofs.Common.{◌≡◌, ℕ, List, [], ◌∷◌, ◌++◌, codes, sym, ap, ◌∙◌, subst}
use Rattle.hs_base.specs.Missions.{IsMission}
use Rattle.drill_mission.proofs.DrillLemmas.{drill_is_mission, drill_of_parts}
use Rattle.drill_mission.proofs.missions.drill.Goals as goal

pub returns-clause-drill : goal.returns-clause-drill
returns-clause-drill c =
    let words : c.push.new.self ≡ codes "done" ∷ [] = c.in_ok-push.ensures.ok ∙ ap (λ l. l ++ c.in_ok-from_bytes.field-0 ∷ []) c.new-words.ensures ∙ ap (λ (n : List ℕ). n ∷ []) c.in_ok-from_bytes.ensures in
    drill_of_parts c.args.size c.args.seed _ _ _ _ c.in_ok-vars.ensures c.in_ok-needs.ensures c.in_ok-horizons.ensures words

pub returns-clause-mission : goal.returns-clause-mission
returns-clause-mission c = subst IsMission (sym (returns-clause-drill c)) (drill_is_mission c.args.size c.args.seed c.requires.0 c.requires.1)
