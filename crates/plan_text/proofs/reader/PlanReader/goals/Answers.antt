use Rattle.std.proofs.Common.{◌∙◌, sym}
use Rattle.std.specs.Prelude.{codes}
use Rattle.std.proofs.lemmas.List.{length_push}
use Rattle.std.proofs.lemmas.Result.{err_from_is_err_and}
use Rattle.text_laws.specs.Parsers.{is_word}
use Rattle.plan_text.specs.PlanReading.{goals_at}
use Rattle.plan_text.proofs.SeriesLemmas.{shorter}
use Rattle.plan_text.proofs.LoopLemmas.{front_none, turn_more, turn_stop, turn_fail, turn_break, keeps_err}
use Rattle.plan_text.proofs.PlanReadLemmas.{goal_series}
use Rattle.plan_text.proofs.reader.PlanReader.goals.Goals as goal

pub returns-in_err-goal : goal.returns-in_err-goal
returns-in_err-goal c =
    let p = err_from_is_err_and c.from_residual.result c.from_residual.ensures.1 in
    let on = sym c.is_at.ensures ∙ c.goals-test.true in
    rw (p.1, p.2)
    (keeps_err _ _ _ _ (λ h. turn_fail _ _ _ _ _ _ goal_series _ _ _ _ _ on h c.goals.invariant) (λ n h. turn_break _ _ _ _ _ _ goal_series _ _ _ _ _ _ on h c.goals.invariant) (rw c.len.ensures at c.in_err-goal.ensures))

pub goals-smaller : goal.goals-smaller
goals-smaller c = shorter _ _ _ _ _ goal_series _ _ _ _ c.in_ok-goal.ensures

pub goals-preserved : goal.goals-preserved
goals-preserved c =
    rw (c.in_ok-push.ensures.ok, length_push c.goals.goals c.in_ok-goal.field-0)
    (turn_more _ _ _ _ _ _ goal_series _ _ _ _ _ _ (sym c.is_at.ensures ∙ c.goals-test.true) (rw c.len.ensures at c.in_ok-goal.ensures) c.goals.invariant)

pub returns : goal.returns
returns c = turn_stop (is_word (codes "goal")) _ _ _ _ _ _ (sym c.is_at.ensures ∙ c.goals-test.false) c.goals.invariant

pub goals-init : goal.goals-init
unfolding goals_at
goals-init c = rw c.new-goals.ensures (front_none _)
