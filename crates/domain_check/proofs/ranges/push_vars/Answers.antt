use Rattle.std.proofs.Common.{◌∙◌, ◌++◌, ap, List, map, flat_map}
use Rattle.hs_texts.specs.declared.ast.AstValue.{AstValue}
use Rattle.hs_texts.specs.declared.ast.AstVar.{AstVar}
use Rattle.hs_texts.specs.MissionRefusals.{is_no_duration}
use Rattle.domain_check.proofs.LoopLemmas.{pushed}
use Rattle.domain_check.proofs.ranges.push_vars.Goals as goal

pub loop-var-preserved : goal.loop-var-preserved
loop-var-preserved c =
    pushed is_no_duration (λ (var : AstVar). flat_map (λ (v : AstValue). v.lasts) var.values) c.args.bad.now c.loop-var.bad c.push_values.new.bad c.args.vars.now c.loop-var.var-index c.var-item.result c.loop-var-test.true c.var-item.is c.loop-var.invariant
    (c.in_ok-push_values.ensures ∙ ap (λ (s : List AstValue). c.loop-var.bad ++ map is_no_duration (flat_map (λ (v : AstValue). v.lasts) s)) c.as_slice.ensures)
