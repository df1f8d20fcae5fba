use Rattle.std.proofs.Common.{◌∙◌, refl, sym}
use Rattle.std.specs.Prelude.{codes}
use Rattle.std.proofs.lemmas.Result.{err_from_is_err_and}
use Rattle.text_laws.specs.Parsers.{is_word}
use Rattle.plan_text.specs.PlanReading.{extensions_at}
use Rattle.plan_text.proofs.SeriesLemmas.{shorter}
use Rattle.plan_text.proofs.LoopLemmas.{front_none, turn_more, turn_stop, turn_fail, turn_break, keeps_err}
use Rattle.plan_text.proofs.PlanReadLemmas.{extension_series}
use Rattle.plan_text.proofs.reader.PlanReader.extensions.Goals as goal

pub returns-in_err-extension : goal.returns-in_err-extension
returns-in_err-extension c =
    let p = err_from_is_err_and c.from_residual-in_err-extension.result c.from_residual-in_err-extension.ensures.1 in
    let on = sym c.is_at.ensures ∙ c.extensions-test.true in
    let i = c.extensions.invariant in
    rw (p.1, p.2)
    (keeps_err _ _ _ _ (λ h. turn_fail _ _ _ _ _ _ (extension_series _) _ _ _ _ _ on h i.1) (λ n h. turn_break _ _ _ _ _ _ (extension_series _) _ _ _ _ _ _ on h i.1) (rw i.0 at c.in_err-extension.ensures))

pub extensions-smaller : goal.extensions-smaller
extensions-smaller c = shorter _ _ _ _ _ (extension_series _) _ _ _ _ c.in_ok-extension.ensures

pub extensions-preserved : goal.extensions-preserved
extensions-preserved c =
    let i = c.extensions.invariant in
    let on = sym c.is_at.ensures ∙ c.extensions-test.true in
    rw c.in_ok-plan-2.ensures
    (i.0, turn_more _ _ _ _ _ _ (extension_series _) _ _ _ _ _ _ on (rw i.0 at c.in_ok-extension.ensures) i.1)

pub returns : goal.returns
returns c =
    rw c.into_extensions.ensures
    (turn_stop (is_word (codes "extension")) _ _ _ _ _ _ (sym c.is_at.ensures ∙ c.extensions-test.false) c.extensions.invariant.1)

pub extensions-init : goal.extensions-init
unfolding extensions_at
extensions-init c = rw c.in_ok-plan.ensures (refl, front_none _)
