use Rattle.std.proofs.Common.{◌∙◌, sym}
use Rattle.std.specs.Prelude.{codes}
use Rattle.std.proofs.lemmas.Result.{err_from_is_err_and}
use Rattle.text_laws.specs.Parsers.{is_word}
use Rattle.text_laws.specs.MissionReading.{horizon_at}
use Rattle.text_laws.proofs.ManyLemmas.{shorter}
use Rattle.text_laws.proofs.MissionLemmas.{horizon_items}
use Rattle.ddl_read.proofs.LoopLemmas.{turn_more, turn_stop, turn_fail, gives_err}
use Rattle.ddl_read.proofs.reader.Reader.horizons.Goals as goal

pub returns-in_err-horizon-2 : goal.returns-in_err-horizon-2
returns-in_err-horizon-2 c =
    let p = err_from_is_err_and c.from_residual-in_err-horizon-2.result c.from_residual-in_err-horizon-2.ensures.1 in
    rw (p.1, p.2)
    (gives_err _ _ _ _ (λ h. turn_fail _ _ _ _ _ (horizon_items c.args.version) _ _ _ _ (sym c.is_at.ensures ∙ c.horizons-test.true) h c.horizons.invariant) c.in_err-horizon-2.ensures)

pub horizons-smaller : goal.horizons-smaller
horizons-smaller c = shorter _ _ _ _ _ (horizon_items c.args.version) _ _ _ c.in_ok-horizon-2.ensures

pub horizons-preserved : goal.horizons-preserved
horizons-preserved c =
    rw c.in_ok-push-2.ensures.ok
    (turn_more _ _ _ _ _ (horizon_items c.args.version) _ _ _ _ _ (sym c.is_at.ensures ∙ c.horizons-test.true) c.in_ok-horizon-2.ensures c.horizons.invariant)

pub returns : goal.returns
returns c = turn_stop (is_word (codes "horizon")) (horizon_at c.args.version) _ _ _ (sym c.is_at.ensures ∙ c.horizons-test.false) c.horizons.invariant
