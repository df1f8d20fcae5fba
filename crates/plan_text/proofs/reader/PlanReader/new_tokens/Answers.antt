use Rattle.std.proofs.Common.{◌∙◌, sym}
use Rattle.std.specs.Prelude.{codes}
use Rattle.std.proofs.lemmas.Result.{err_from_is_err_and}
use Rattle.text_laws.specs.Parsers.{is_word}
use Rattle.text_laws.proofs.ManyLemmas.{shorter}
use Rattle.ddl_read.proofs.LoopLemmas.{turn_more, turn_stop, turn_fail}
use Rattle.plan_text.specs.PlanReading.{new_token_at}
use Rattle.plan_text.proofs.LoopLemmas.{gives_err}
use Rattle.plan_text.proofs.PlanReadLemmas.{new_token_items}
use Rattle.plan_text.proofs.reader.PlanReader.new_tokens.Goals as goal

pub returns-in_err-new_token : goal.returns-in_err-new_token
returns-in_err-new_token c =
    let p = err_from_is_err_and c.from_residual.result c.from_residual.ensures.1 in
    rw (p.1, p.2)
    (gives_err _ _ _ _ (λ h. turn_fail _ _ _ _ _ new_token_items _ _ _ _ (sym c.is_at.ensures ∙ c.tokens-test.true) h c.tokens.invariant) c.in_err-new_token.ensures)

pub tokens-smaller : goal.tokens-smaller
tokens-smaller c = shorter _ _ _ _ _ new_token_items _ _ _ c.in_ok-new_token.ensures

pub tokens-preserved : goal.tokens-preserved
tokens-preserved c =
    rw c.in_ok-push.ensures.ok
    (turn_more _ _ _ _ _ new_token_items _ _ _ _ _ (sym c.is_at.ensures ∙ c.tokens-test.true) c.in_ok-new_token.ensures c.tokens.invariant)

pub returns : goal.returns
returns c = turn_stop (is_word (codes "token")) new_token_at _ _ _ (sym c.is_at.ensures ∙ c.tokens-test.false) c.tokens.invariant
