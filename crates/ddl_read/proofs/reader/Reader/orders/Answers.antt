use Rattle.std.proofs.Common.{◌∙◌, sym}
use Rattle.std.specs.Prelude.{codes}
use Rattle.std.proofs.lemmas.Result.{err_from_is_err_and}
use Rattle.text_laws.specs.Parsers.{is_word}
use Rattle.text_laws.specs.MissionReading.{do_at}
use Rattle.text_laws.proofs.ManyLemmas.{shorter}
use Rattle.text_laws.proofs.MissionLemmas.{do_items}
use Rattle.ddl_read.proofs.LoopLemmas.{turn_more, turn_stop, turn_fail, gives_err}
use Rattle.ddl_read.proofs.reader.Reader.orders.Goals as goal

pub returns-in_err-order : goal.returns-in_err-order
returns-in_err-order c =
    let p = err_from_is_err_and c.from_residual.result c.from_residual.ensures.1 in
    rw (p.1, p.2)
    (gives_err _ _ _ _ (λ h. turn_fail _ _ _ _ _ (do_items c.args.version) _ _ _ _ (sym c.is_at.ensures ∙ c.orders-test.true) h c.orders.invariant) c.in_err-order.ensures)

pub orders-smaller : goal.orders-smaller
orders-smaller c = shorter _ _ _ _ _ (do_items c.args.version) _ _ _ c.in_ok-order.ensures

pub orders-preserved : goal.orders-preserved
orders-preserved c =
    rw c.in_ok-push.ensures.ok
    (turn_more _ _ _ _ _ (do_items c.args.version) _ _ _ _ _ (sym c.is_at.ensures ∙ c.orders-test.true) c.in_ok-order.ensures c.orders.invariant)

pub returns : goal.returns
returns c = turn_stop (is_word (codes "do")) (do_at c.args.version) _ _ _ (sym c.is_at.ensures ∙ c.orders-test.false) c.orders.invariant
