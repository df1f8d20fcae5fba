use Rattle.std.proofs.Common.{◌∙◌, length, Some, refl, sym, ap, arith}
use Rattle.std.proofs.lemmas.Option.{slice_get_read}
use Rattle.plan_check.proofs.WithinLemmas.{none_checked}
use Rattle.commands.proofs.FaultLemmas.{checked_next, flaw_next}
use Rattle.commands.proofs.checking.check_each.Goals as goal

pub loop-place-init : goal.loop-place-init
loop-place-init c = record {
  mission = c.in_ok-checker.ensures.mission ∙ c.in_ok-copy.ensures;
  plan = c.in_ok-checker.ensures.plan;
  checked = none_checked c.args.mission.now c.requires;
}

pub loop-place-preserved : goal.loop-place-preserved
loop-place-preserved c =
    let es = c.args.extensions.now in
    let base = c.loop-place.checker in
    let next = c.in-Ok.next in
    let i = c.loop-place.place in
    let at = slice_get_read es (length es) i c.index-extensions-place.result refl (omega arith) c.index-extensions-place.is ∙ ap Some (sym c.in_ok-copy-2.ensures) in
    let same = c.in-Ok.ensures.joins.0 ∙ c.loop-place.invariant.mission in
    let further = checked_next c.args.mission.now next.mission es base.plan.extensions next.plan.extensions i c.in_ok-copy-2.field-0 same c.loop-place.invariant.plan c.in-Ok.ensures.joins.1 at c.in-Ok.ensures.checked in
    record { mission = same; plan = further.0; checked = further.1 }

pub returns-in-Err-clause-flaw : goal.returns-in-Err-clause-flaw
returns-in-Err-clause-flaw c =
    let es = c.args.extensions.now in
    let base = c.loop-place.checker in
    let i = c.loop-place.place in
    let at = slice_get_read es (length es) i c.index-extensions-place.result refl (omega arith) c.index-extensions-place.is ∙ ap Some (sym c.in_ok-copy-2.ensures) in
    λ some. flaw_next c.args.mission.now base.mission es base.plan.extensions i c.in_ok-copy-2.field-0 c.in-Err.fault c.loop-place.invariant.mission c.loop-place.invariant.plan at c.loop-place.invariant.checked c.in-Err.ensures.fault
