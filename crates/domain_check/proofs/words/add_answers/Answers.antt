use Rattle.std.proofs.Common.{◌∙◌, ap, List}
use Rattle.hs_texts.specs.declared.ast.AstSaid.{AstSaid}
use Rattle.hs_texts.specs.MissionMeaning.{first_seen}
use Rattle.domain_check.specs.Tables.{names_in, words_said}
use Rattle.domain_check.proofs.LoopLemmas.{seen_at}
use Rattle.domain_check.proofs.words.add_answers.Goals as goal

pub loop-said-preserved : goal.loop-said-preserved
loop-said-preserved c =
    seen_at words_said (names_in c.loop-said.words) (names_in c.add_said.new.words) c.args.answers.now c.loop-said.said-index c.said-item.result c.loop-said-test.true c.said-item.is
    (c.in_ok-add_said.ensures ∙ ap (λ (s : List AstSaid). first_seen (names_in c.loop-said.words) (words_said s)) c.as_slice.ensures)
    ∙ c.loop-said.invariant
