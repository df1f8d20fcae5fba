use Rattle.std.proofs.Common.{◌∙◌, sym}
use Rattle.std.specs.Prelude.{codes}
use Rattle.std.proofs.lemmas.Result.{err_from_is_err_and}
use Rattle.text_laws.specs.Parsers.{is_word}
use Rattle.text_laws.specs.MissionReading.{answers_at}
use Rattle.text_laws.proofs.ManyLemmas.{shorter}
use Rattle.text_laws.proofs.MissionLemmas.{answers_items}
use Rattle.ddl_read.proofs.LoopLemmas.{turn_more, turn_stop, turn_fail, gives_err}
use Rattle.ddl_read.proofs.reader.Reader.all_answers.Goals as goal

pub returns-in_err-answers : goal.returns-in_err-answers
returns-in_err-answers c =
    let p = err_from_is_err_and c.from_residual.result c.from_residual.ensures.1 in
    rw (p.1, p.2)
    (gives_err _ _ _ _ (λ h. turn_fail _ _ _ _ _ (answers_items c.args.version) _ _ _ _ (sym c.is_at.ensures ∙ c.clauses-test.true) h c.clauses.invariant) c.in_err-answers.ensures)

pub clauses-smaller : goal.clauses-smaller
clauses-smaller c = shorter _ _ _ _ _ (answers_items c.args.version) _ _ _ c.in_ok-answers.ensures

pub clauses-preserved : goal.clauses-preserved
clauses-preserved c =
    rw c.in_ok-push.ensures.ok
    (turn_more _ _ _ _ _ (answers_items c.args.version) _ _ _ _ _ (sym c.is_at.ensures ∙ c.clauses-test.true) c.in_ok-answers.ensures c.clauses.invariant)

pub returns : goal.returns
returns c = turn_stop (is_word (codes "answers")) (answers_at c.args.version) _ _ _ (sym c.is_at.ensures ∙ c.clauses-test.false) c.clauses.invariant
