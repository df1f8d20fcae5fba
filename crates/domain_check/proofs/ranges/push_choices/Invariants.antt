use Rattle.std.proofs.Common.{◌≡◌, ◌++◌, map, flat_map, take}
use Rattle.hs_texts.specs.declared.ast.AstChoice.{AstChoice}
use Rattle.hs_texts.specs.MissionRefusals.{is_exchanged, ranges_of_relation}
use Rattle.domain_check.proofs.ranges.push_choices.Given as goal

abbrev pub invariant-loop-choice : goal.invariant-loop-choice
invariant-loop-choice l = l.bad ≡ l.fn.bad ++ map is_exchanged (flat_map (λ (c : AstChoice). ranges_of_relation c.relation) (take l.choice-index l.choices))
