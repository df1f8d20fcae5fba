use Rattle.std.proofs.Common.{List, subst, sym, ◌<◌, ◌^◌}
use Rattle.std.proofs.lemmas.Result.{err_from_is_err_and}
use Rattle.hs_base.specs.declared.mission.Kind.{Kind}
use Rattle.hs_base.specs.Points.{tokens_of}
use Rattle.hs_base.specs.Checked.{joined, KeepsNeeds}
use Rattle.plan_check.specs.Lines.{size_of}
use Rattle.plan_check.specs.Open.{HasNoneOpen, IsOpenFault}
use Rattle.plan_check.proofs.WithinLemmas.{all_needs, inside_next}
use Rattle.plan_check.proofs.OrderLemmas.{row_few_all}
use Rattle.plan_check.proofs.NeedLemmas.{needs_kept, open_fault}
use Rattle.plan_check.proofs.services.check_services.Goals as goal

pub check_needs-requires-clause-few : goal.check_needs-requires-clause-few
check_needs-requires-clause-few c = λ v. subst (λ (l : List Kind). size_of l v < 2 ^ 32) (sym c.requires.tokens) (row_few_all c.args.mission.now c.args.plan.now.extensions c.args.extension.now v c.requires.checked.mission c.requires.checked.rules c.requires.before.1.0)

pub returns-in_err-check_needs-clause-fault : goal.returns-in_err-check_needs-clause-fault
returns-in_err-check_needs-clause-fault c =
    let m = c.args.mission.now in
    let es = c.args.plan.now.extensions in
    let e = c.args.extension.now in
    let tokens = tokens_of (joined es e) in
    let set = c.check_supports.new.claims.set in
    let f = c.in_err-check_needs.field-0.0 in
    let base : KeepsNeeds m es = all_needs m c.requires.checked.mission es c.requires.checked.rules in
    let here : IsOpenFault m set tokens e.tokens f = subst (λ (l : List Kind). IsOpenFault m set l e.tokens f) c.requires.tokens (subst (λ (l : List Kind). IsOpenFault m set c.args.index.now.tokens l f) c.as_slice.ensures c.in_err-check_needs.ensures.fault) in
    let before = c.requires.before in
    let p = err_from_is_err_and c.from_residual-in_err-check_needs.result c.from_residual-in_err-check_needs.ensures.1 in
    rw (p.1, p.2) (open_fault m es e set (inside_next m es e c.requires.checked.rules c.requires.before.1.1.0) c.in_ok-check_supports.ensures.claims base f (before.0, (before.1.0, (before.1.1.0, (before.1.1.1.0, (c.in_ok-check_supports.ensures.kept, tt))))) here)

pub returns-clause-needs : goal.returns-clause-needs
returns-clause-needs c =
    let m = c.args.mission.now in
    let es = c.args.plan.now.extensions in
    let e = c.args.extension.now in
    let tokens = tokens_of (joined es e) in
    let set = c.check_supports.new.claims.set in
    let base : KeepsNeeds m es = all_needs m c.requires.checked.mission es c.requires.checked.rules in
    let none : HasNoneOpen m set tokens e.tokens = subst (λ (l : List Kind). HasNoneOpen m set l e.tokens) c.requires.tokens (subst (λ (l : List Kind). HasNoneOpen m set c.args.index.now.tokens l) c.as_slice.ensures c.in_ok-check_needs.ensures.none) in
    needs_kept m es e set (inside_next m es e c.requires.checked.rules c.requires.before.1.1.0) c.in_ok-check_supports.ensures.claims base none
