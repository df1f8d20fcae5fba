use Rattle.std.proofs.Common.{◌∙◌, sym}
use Rattle.std.specs.Prelude.{codes}
use Rattle.std.proofs.lemmas.Result.{err_from_is_err_and}
use Rattle.text_laws.specs.Parsers.{is_word}
use Rattle.text_laws.specs.MissionReading.{need_at}
use Rattle.text_laws.proofs.ManyLemmas.{shorter}
use Rattle.text_laws.proofs.MissionLemmas.{need_items}
use Rattle.ddl_read.proofs.LoopLemmas.{turn_more, turn_stop, turn_fail, gives_err}
use Rattle.ddl_read.proofs.reader.Reader.needs.Goals as goal

pub returns-in_err-need : goal.returns-in_err-need
returns-in_err-need c =
    let p = err_from_is_err_and c.from_residual.result c.from_residual.ensures.1 in
    rw (p.1, p.2)
    (gives_err _ _ _ _ (λ h. turn_fail _ _ _ _ _ (need_items c.args.version) _ _ _ _ (sym c.is_at.ensures ∙ c.needs-test.true) h c.needs.invariant) c.in_err-need.ensures)

pub needs-smaller : goal.needs-smaller
needs-smaller c = shorter _ _ _ _ _ (need_items c.args.version) _ _ _ c.in_ok-need.ensures

pub needs-preserved : goal.needs-preserved
needs-preserved c =
    rw c.in_ok-push.ensures.ok
    (turn_more _ _ _ _ _ (need_items c.args.version) _ _ _ _ _ (sym c.is_at.ensures ∙ c.needs-test.true) c.in_ok-need.ensures c.needs.invariant)

pub returns : goal.returns
returns c = turn_stop (is_word (codes "need")) (need_at c.args.version) _ _ _ (sym c.is_at.ensures ∙ c.needs-test.false) c.needs.invariant
