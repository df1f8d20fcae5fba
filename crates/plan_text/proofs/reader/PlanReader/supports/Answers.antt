use Rattle.std.proofs.Common.{◌∙◌, sym}
use Rattle.std.specs.Prelude.{codes}
use Rattle.std.proofs.lemmas.Result.{err_from_is_err_and}
use Rattle.text_laws.specs.Parsers.{is_word}
use Rattle.text_laws.proofs.ManyLemmas.{shorter}
use Rattle.ddl_read.proofs.LoopLemmas.{turn_more, turn_stop, turn_fail}
use Rattle.plan_text.specs.PlanReading.{support_at}
use Rattle.plan_text.proofs.LoopLemmas.{gives_err}
use Rattle.plan_text.proofs.PlanReadLemmas.{support_items}
use Rattle.plan_text.proofs.reader.PlanReader.supports.Goals as goal

pub returns-in_err-support : goal.returns-in_err-support
returns-in_err-support c =
    let p = err_from_is_err_and c.from_residual.result c.from_residual.ensures.1 in
    rw (p.1, p.2)
    (gives_err _ _ _ _ (λ h. turn_fail _ _ _ _ _ support_items _ _ _ _ (sym c.is_at.ensures ∙ c.supports-test.true) h c.supports.invariant) c.in_err-support.ensures)

pub supports-smaller : goal.supports-smaller
supports-smaller c = shorter _ _ _ _ _ support_items _ _ _ c.in_ok-support.ensures

pub supports-preserved : goal.supports-preserved
supports-preserved c =
    rw c.in_ok-push.ensures.ok
    (turn_more _ _ _ _ _ support_items _ _ _ _ _ (sym c.is_at.ensures ∙ c.supports-test.true) c.in_ok-support.ensures c.supports.invariant)

pub returns : goal.returns
returns c = turn_stop (is_word (codes "support")) support_at _ _ _ (sym c.is_at.ensures ∙ c.supports-test.false) c.supports.invariant
