use Rattle.std.proofs.Common.{◌∙◌, ap, List, flat_map}
use Rattle.hs_texts.specs.declared.ast.AstValue.{AstValue}
use Rattle.hs_texts.specs.declared.ast.AstVar.{AstVar}
use Rattle.hs_texts.specs.MissionMeaning.{first_seen, words_of_value}
use Rattle.domain_check.specs.Tables.{names_in}
use Rattle.domain_check.proofs.LoopLemmas.{seen_at}
use Rattle.domain_check.proofs.words.add_vars.Goals as goal

pub loop-var-preserved : goal.loop-var-preserved
loop-var-preserved c =
    seen_at (λ (var : AstVar). flat_map words_of_value var.values) (names_in c.loop-var.words) (names_in c.add_values.new.words) c.args.vars.now c.loop-var.var-index c.var-item.result c.loop-var-test.true c.var-item.is
    (c.in_ok-add_values.ensures ∙ ap (λ (s : List AstValue). first_seen (names_in c.loop-var.words) (flat_map words_of_value s)) c.as_slice.ensures)
    ∙ c.loop-var.invariant
