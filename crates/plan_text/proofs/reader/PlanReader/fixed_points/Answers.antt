use Rattle.std.proofs.Common.{◌∙◌, sym}
use Rattle.std.specs.Prelude.{codes}
use Rattle.std.proofs.lemmas.Result.{err_from_is_err_and}
use Rattle.text_laws.specs.Parsers.{is_word}
use Rattle.plan_text.specs.PlanReading.{fixed_points_at}
use Rattle.plan_text.proofs.SeriesLemmas.{shorter}
use Rattle.plan_text.proofs.LoopLemmas.{front_none, turn_more, turn_stop, turn_fail, turn_break, keeps_err}
use Rattle.plan_text.proofs.PlanReadLemmas.{fix_series}
use Rattle.plan_text.proofs.reader.PlanReader.fixed_points.Goals as goal

pub returns-in_err-fix : goal.returns-in_err-fix
returns-in_err-fix c =
    let p = err_from_is_err_and c.from_residual.result c.from_residual.ensures.1 in
    let on = sym c.is_at.ensures ∙ c.fixed-test.true in
    rw (p.1, p.2)
    (keeps_err _ _ _ _ (λ h. turn_fail _ _ _ _ _ _ (fix_series _) _ _ _ _ _ on h c.fixed.invariant) (λ n h. turn_break _ _ _ _ _ _ (fix_series _) _ _ _ _ _ _ on h c.fixed.invariant) c.in_err-fix.ensures)

pub fixed-smaller : goal.fixed-smaller
fixed-smaller c = shorter _ _ _ _ _ (fix_series _) _ _ _ _ c.in_ok-fix.ensures

pub fixed-preserved : goal.fixed-preserved
fixed-preserved c =
    rw c.in_ok-push.ensures.ok
    (turn_more _ _ _ _ _ _ (fix_series _) _ _ _ _ _ _ (sym c.is_at.ensures ∙ c.fixed-test.true) c.in_ok-fix.ensures c.fixed.invariant)

pub returns : goal.returns
returns c = turn_stop (is_word (codes "fix")) _ _ _ _ _ _ (sym c.is_at.ensures ∙ c.fixed-test.false) c.fixed.invariant

pub fixed-init : goal.fixed-init
unfolding fixed_points_at
fixed-init c = rw c.new-fixed.ensures (front_none _)
