use Rattle.std.proofs.Common.{◌∙◌, sym}
use Rattle.std.specs.Str.{byte}
use Rattle.std.proofs.lemmas.Result.{err_from_is_err_and}
use Rattle.text_laws.specs.Parsers.{behind, is_sign}
use Rattle.text_laws.specs.MissionReading.{said_at}
use Rattle.text_laws.proofs.ManyLemmas.{shorter}
use Rattle.text_laws.proofs.MissionLemmas.{said_items}
use Rattle.ddl_read.proofs.LoopLemmas.{turn_more, turn_stop, turn_fail, gives_err}
use Rattle.ddl_read.proofs.reader.Reader.words_said.Goals as goal

pub returns-in_err-further_said : goal.returns-in_err-further_said
returns-in_err-further_said c =
    let p = err_from_is_err_and c.from_residual-in_err-further_said.result c.from_residual-in_err-further_said.ensures.1 in
    rw (p.1, p.2)
    (gives_err _ _ _ _ (λ h. turn_fail _ _ _ _ _ (said_items c.args.version) _ _ _ _ (sym c.is_at_symbol.ensures ∙ c.words-test.true) h c.words.invariant) c.in_err-further_said.ensures)

pub words-smaller : goal.words-smaller
words-smaller c = shorter _ _ _ _ _ (said_items c.args.version) _ _ _ c.in_ok-further_said.ensures

pub words-preserved : goal.words-preserved
words-preserved c =
    rw c.in_ok-push-2.ensures.ok
    (turn_more _ _ _ _ _ (said_items c.args.version) _ _ _ _ _ (sym c.is_at_symbol.ensures ∙ c.words-test.true) c.in_ok-further_said.ensures c.words.invariant)

pub returns : goal.returns
returns c = turn_stop (is_sign (byte ",")) (behind "," (said_at c.args.version)) _ _ _ (sym c.is_at_symbol.ensures ∙ c.words-test.false) c.words.invariant
