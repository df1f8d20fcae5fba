use Rattle.std.proofs.Common.{◌∙◌, sym}
use Rattle.std.specs.Prelude.{codes}
use Rattle.std.proofs.lemmas.Result.{err_from_is_err_and}
use Rattle.text_laws.specs.Parsers.{is_word}
use Rattle.text_laws.specs.MissionReading.{goal_at}
use Rattle.text_laws.proofs.ManyLemmas.{shorter}
use Rattle.text_laws.proofs.MissionLemmas.{goal_items}
use Rattle.ddl_read.proofs.LoopLemmas.{turn_more, turn_stop, turn_fail, gives_err}
use Rattle.ddl_read.proofs.reader.Reader.goals.Goals as goal

pub returns-in_err-goal : goal.returns-in_err-goal
returns-in_err-goal c =
    let p = err_from_is_err_and c.from_residual.result c.from_residual.ensures.1 in
    rw (p.1, p.2)
    (gives_err _ _ _ _ (λ h. turn_fail _ _ _ _ _ (goal_items c.args.version) _ _ _ _ (sym c.is_at.ensures ∙ c.goals-test.true) h c.goals.invariant) c.in_err-goal.ensures)

pub goals-smaller : goal.goals-smaller
goals-smaller c = shorter _ _ _ _ _ (goal_items c.args.version) _ _ _ c.in_ok-goal.ensures

pub goals-preserved : goal.goals-preserved
goals-preserved c =
    rw c.in_ok-push.ensures.ok
    (turn_more _ _ _ _ _ (goal_items c.args.version) _ _ _ _ _ (sym c.is_at.ensures ∙ c.goals-test.true) c.in_ok-goal.ensures c.goals.invariant)

pub returns : goal.returns
returns c = turn_stop (is_word (codes "goal")) (goal_at c.args.version) _ _ _ (sym c.is_at.ensures ∙ c.goals-test.false) c.goals.invariant
