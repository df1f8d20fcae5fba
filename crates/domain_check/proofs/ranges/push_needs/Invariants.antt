use Rattle.std.proofs.Common.{◌≡◌, ◌++◌, map, flat_map, take}
use Rattle.hs_texts.specs.declared.ast.AstChoice.{AstChoice}
use Rattle.hs_texts.specs.declared.ast.AstNeed.{AstNeed}
use Rattle.hs_texts.specs.MissionRefusals.{is_exchanged, ranges_of_relation}
use Rattle.domain_check.proofs.ranges.push_needs.Given as goal

abbrev pub invariant-loop-need : goal.invariant-loop-need
invariant-loop-need l = l.bad ≡ l.fn.bad ++ map is_exchanged (flat_map (λ (n : AstNeed). flat_map (λ (c : AstChoice). ranges_of_relation c.relation) n.either) (take l.need-index l.needs))
