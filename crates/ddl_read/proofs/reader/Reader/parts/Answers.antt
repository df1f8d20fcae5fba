use Rattle.std.proofs.Common.{◌∙◌, sym}
use Rattle.std.specs.Str.{byte}
use Rattle.std.proofs.lemmas.Result.{err_from_is_err_and}
use Rattle.text_laws.specs.Parsers.{behind, is_sign}
use Rattle.text_laws.specs.MissionReading.{part_at}
use Rattle.text_laws.proofs.ManyLemmas.{shorter}
use Rattle.text_laws.proofs.MissionLemmas.{part_items}
use Rattle.ddl_read.proofs.LoopLemmas.{turn_more, turn_stop, turn_fail, gives_err}
use Rattle.ddl_read.proofs.reader.Reader.parts.Goals as goal

pub returns-in_err-further_part : goal.returns-in_err-further_part
returns-in_err-further_part c =
    let p = err_from_is_err_and c.from_residual-in_err-further_part.result c.from_residual-in_err-further_part.ensures.1 in
    rw (p.1, p.2)
    (gives_err _ _ _ _ (λ h. turn_fail _ _ _ _ _ (part_items c.args.version) _ _ _ _ (sym c.is_at_symbol.ensures ∙ c.parts-test.true) h c.parts.invariant) c.in_err-further_part.ensures)

pub parts-smaller : goal.parts-smaller
parts-smaller c = shorter _ _ _ _ _ (part_items c.args.version) _ _ _ c.in_ok-further_part.ensures

pub parts-preserved : goal.parts-preserved
parts-preserved c =
    rw c.in_ok-push-2.ensures.ok
    (turn_more _ _ _ _ _ (part_items c.args.version) _ _ _ _ _ (sym c.is_at_symbol.ensures ∙ c.parts-test.true) c.in_ok-further_part.ensures c.parts.invariant)

pub returns : goal.returns
returns c = turn_stop (is_sign (byte ";")) (behind ";" (part_at c.args.version)) _ _ _ (sym c.is_at_symbol.ensures ∙ c.parts-test.false) c.parts.invariant
