use Rattle.std.proofs.Common.{◌∙◌, sym}
use Rattle.std.specs.Str.{byte}
use Rattle.std.proofs.lemmas.Result.{err_from_is_err_and}
use Rattle.text_laws.specs.Parsers.{is_sign, behind}
use Rattle.text_laws.specs.MissionReading.{use_at}
use Rattle.text_laws.proofs.ManyLemmas.{shorter}
use Rattle.text_laws.proofs.MissionLemmas.{use_items}
use Rattle.ddl_read.proofs.LoopLemmas.{turn_more, turn_stop, turn_fail, gives_err}
use Rattle.ddl_read.proofs.reader.Reader.uses.Goals as goal

pub returns-in_err-further_use : goal.returns-in_err-further_use
returns-in_err-further_use c =
    let p = err_from_is_err_and c.from_residual-in_err-further_use.result c.from_residual-in_err-further_use.ensures.1 in
    rw (p.1, p.2)
    (gives_err _ _ _ _ (λ h. turn_fail _ _ _ _ _ (use_items c.args.version) _ _ _ _ (sym c.is_at_symbol.ensures ∙ c.uses-test.true) h c.uses.invariant) c.in_err-further_use.ensures)

pub uses-smaller : goal.uses-smaller
uses-smaller c = shorter _ _ _ _ _ (use_items c.args.version) _ _ _ c.in_ok-further_use.ensures

pub uses-preserved : goal.uses-preserved
uses-preserved c =
    rw c.in_ok-push-2.ensures.ok
    (turn_more _ _ _ _ _ (use_items c.args.version) _ _ _ _ _ (sym c.is_at_symbol.ensures ∙ c.uses-test.true) c.in_ok-further_use.ensures c.uses.invariant)

pub returns : goal.returns
returns c = turn_stop (is_sign (byte ",")) (behind "," (use_at c.args.version)) _ _ _ (sym c.is_at_symbol.ensures ∙ c.uses-test.false) c.uses.invariant
