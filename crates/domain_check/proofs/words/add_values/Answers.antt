use Rattle.std.proofs.Common.{◌∙◌}
use Rattle.hs_texts.specs.MissionMeaning.{words_of_value}
use Rattle.domain_check.specs.Tables.{names_in}
use Rattle.domain_check.proofs.LoopLemmas.{seen_at}
use Rattle.domain_check.proofs.words.add_values.Goals as goal

pub loop-value-preserved : goal.loop-value-preserved
loop-value-preserved c =
    seen_at words_of_value (names_in c.loop-value.words) (names_in c.add_value.new.words) c.args.values.now c.loop-value.value-index c.value-item.result c.loop-value-test.true c.value-item.is c.in_ok-add_value.ensures
    ∙ c.loop-value.invariant
