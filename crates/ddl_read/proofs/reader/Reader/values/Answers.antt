use Rattle.std.proofs.Common.{◌∙◌, sym}
use Rattle.std.specs.Prelude.{codes}
use Rattle.std.proofs.lemmas.Result.{err_from_is_err_and}
use Rattle.text_laws.specs.Parsers.{is_word}
use Rattle.text_laws.specs.MissionReading.{value_at}
use Rattle.text_laws.proofs.ManyLemmas.{shorter}
use Rattle.text_laws.proofs.MissionLemmas.{value_items}
use Rattle.ddl_read.proofs.LoopLemmas.{turn_more, turn_stop, turn_fail, gives_err}
use Rattle.ddl_read.proofs.reader.Reader.values.Goals as goal

pub returns-in_err-value-2 : goal.returns-in_err-value-2
returns-in_err-value-2 c =
    let p = err_from_is_err_and c.from_residual-in_err-value-2.result c.from_residual-in_err-value-2.ensures.1 in
    rw (p.1, p.2)
    (gives_err _ _ _ _ (λ h. turn_fail _ _ _ _ _ (value_items c.args.version) _ _ _ _ (sym c.is_at.ensures ∙ c.values-test.true) h c.values.invariant) c.in_err-value-2.ensures)

pub values-smaller : goal.values-smaller
values-smaller c = shorter _ _ _ _ _ (value_items c.args.version) _ _ _ c.in_ok-value-2.ensures

pub values-preserved : goal.values-preserved
values-preserved c =
    rw c.in_ok-push-2.ensures.ok
    (turn_more _ _ _ _ _ (value_items c.args.version) _ _ _ _ _ (sym c.is_at.ensures ∙ c.values-test.true) c.in_ok-value-2.ensures c.values.invariant)

pub returns : goal.returns
returns c = turn_stop (is_word (codes "value")) (value_at c.args.version) _ _ _ (sym c.is_at.ensures ∙ c.values-test.false) c.values.invariant
