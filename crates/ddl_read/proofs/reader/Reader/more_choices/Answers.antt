use Rattle.std.proofs.Common.{◌∙◌, sym}
use Rattle.std.specs.Prelude.{codes}
use Rattle.std.proofs.lemmas.Result.{err_from_is_err_and}
use Rattle.text_laws.specs.Parsers.{after, is_word}
use Rattle.text_laws.specs.MissionReading.{choice_at}
use Rattle.text_laws.proofs.ManyLemmas.{shorter}
use Rattle.text_laws.proofs.MissionLemmas.{choice_items}
use Rattle.ddl_read.proofs.LoopLemmas.{turn_more, turn_stop, turn_fail, gives_err}
use Rattle.ddl_read.proofs.reader.Reader.more_choices.Goals as goal

pub returns-in_err-further_choice : goal.returns-in_err-further_choice
returns-in_err-further_choice c =
    let p = err_from_is_err_and c.from_residual.result c.from_residual.ensures.1 in
    rw (p.1, p.2)
    (gives_err _ _ _ _ (λ h. turn_fail _ _ _ _ _ (choice_items c.args.version) _ _ _ _ (sym c.is_at.ensures ∙ c.choices-test.true) h c.choices.invariant) c.in_err-further_choice.ensures)

pub choices-smaller : goal.choices-smaller
choices-smaller c = shorter _ _ _ _ _ (choice_items c.args.version) _ _ _ c.in_ok-further_choice.ensures

pub choices-preserved : goal.choices-preserved
choices-preserved c =
    rw c.in_ok-push.ensures.ok
    (turn_more _ _ _ _ _ (choice_items c.args.version) _ _ _ _ _ (sym c.is_at.ensures ∙ c.choices-test.true) c.in_ok-further_choice.ensures c.choices.invariant)

pub returns : goal.returns
returns c = turn_stop (is_word (codes "or")) (after "or" (choice_at c.args.version)) _ _ _ (sym c.is_at.ensures ∙ c.choices-test.false) c.choices.invariant
