use Rattle.std.proofs.Common.{◌∙◌, refl, sym}
use Rattle.std.proofs.lemmas.Result.{err_from_is_err_and}
use Rattle.plan_text.proofs.SeriesLemmas.{shorter}
use Rattle.plan_text.proofs.LoopLemmas.{front_none, turn_more, turn_stop, turn_fail, turn_break, keeps_err}
use Rattle.journal_read.specs.LogReading.{is_entry, entries_at}
use Rattle.journal_read.proofs.LogReadLemmas.{entry_series}
use Rattle.journal_read.proofs.log.entries.Goals as goal

pub returns-in_err-entry : goal.returns-in_err-entry
returns-in_err-entry c =
    let p = err_from_is_err_and c.from_residual-in_err-entry.result c.from_residual-in_err-entry.ensures.1 in
    let on = sym c.is_at_entry.ensures ∙ c.entries-test.true in
    let i = c.entries.invariant in
    rw (p.1, p.2)
    (keeps_err _ _ _ _ (λ h. turn_fail _ _ _ _ _ _ (entry_series _) _ _ _ _ _ on h i.1) (λ n h. turn_break _ _ _ _ _ _ (entry_series _) _ _ _ _ _ _ on h i.1) (rw i.0 at c.in_err-entry.ensures))

pub entries-smaller : goal.entries-smaller
entries-smaller c = shorter _ _ _ _ _ (entry_series _) _ _ _ _ c.in_ok-entry.ensures

pub entries-preserved : goal.entries-preserved
entries-preserved c =
    let i = c.entries.invariant in
    let on = sym c.is_at_entry.ensures ∙ c.entries-test.true in
    rw (c.in_ok-plan-2.ensures, c.in_ok-push.ensures.ok)
    (i.0, turn_more _ _ _ _ _ _ (entry_series _) _ _ _ _ _ _ on (rw i.0 at c.in_ok-entry.ensures) i.1)

pub returns : goal.returns
returns c = turn_stop is_entry _ _ _ _ _ _ (sym c.is_at_entry.ensures ∙ c.entries-test.false) c.entries.invariant.1

pub entries-init : goal.entries-init
unfolding entries_at
entries-init c = rw (c.in_ok-plan.ensures, c.new-entries.ensures) (refl, front_none _)
