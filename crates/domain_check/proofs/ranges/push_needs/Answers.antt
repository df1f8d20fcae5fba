use Rattle.std.proofs.Common.{◌∙◌, ◌++◌, ap, List, map, flat_map}
use Rattle.hs_texts.specs.declared.ast.AstChoice.{AstChoice}
use Rattle.hs_texts.specs.declared.ast.AstNeed.{AstNeed}
use Rattle.hs_texts.specs.MissionRefusals.{is_exchanged, ranges_of_relation}
use Rattle.domain_check.proofs.LoopLemmas.{pushed}
use Rattle.domain_check.proofs.ranges.push_needs.Goals as goal

pub loop-need-preserved : goal.loop-need-preserved
loop-need-preserved c =
    pushed is_exchanged (λ (n : AstNeed). flat_map (λ (c : AstChoice). ranges_of_relation c.relation) n.either) c.args.bad.now c.loop-need.bad c.push_choices.new.bad c.args.needs.now c.loop-need.need-index c.need-item.result c.loop-need-test.true c.need-item.is c.loop-need.invariant
    (c.in_ok-push_choices.ensures ∙ ap (λ (s : List AstChoice). c.loop-need.bad ++ map is_exchanged (flat_map (λ (c : AstChoice). ranges_of_relation c.relation) s)) c.as_slice.ensures)
