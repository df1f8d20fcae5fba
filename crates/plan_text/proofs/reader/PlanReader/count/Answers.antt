use Rattle.std.proofs.Common.{◌∙◌, w64, FitsSigned}
use Rattle.std.proofs.lemmas.Int.{to_z-of_z}
use Rattle.std.proofs.lemmas.Result.{err_from_is_err_and}
use Rattle.plan_text.proofs.CountLemmas.{no_count_given, count_given}
use Rattle.plan_text.proofs.reader.PlanReader.count.Goals as goal

pub returns-in_err-number : goal.returns-in_err-number
returns-in_err-number c =
    let p = err_from_is_err_and c.from_residual.result c.from_residual.ensures.1 in
    rw (p.1, p.2) (no_count_given _ _ _ c.in_err-number.ensures)

pub returns : goal.returns
returns c =
    let kept = (rw c.in_ok-number.was at c.number.type_inv) in
    let fits : FitsSigned w64 c.in_ok-number.number = record { sfits = kept.1.1.1.1.0.1 } in
    count_given _ _ c.in_ok-number.number c.in_ok-count_of.field-0 c.in_ok-number.ensures (c.in_ok-count_of.ensures ∙ to_z-of_z w64 c.in_ok-number.number fits)
