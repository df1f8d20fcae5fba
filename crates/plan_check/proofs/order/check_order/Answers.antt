use Rattle.std.proofs.Common.{◌≡◌, ◌++◌, ◌<◌, ◌^◌, List, [], length, take, get_or, sym, ap, subst, ◌∙◌, ℕ}
use Rattle.std.proofs.lemmas.Result.{err_from_is_err_and}
use Rattle.hs_base.specs.declared.mission.Kind.{Kind}
use Rattle.hs_base.specs.Walks.{EachAfter}
use Rattle.hs_base.specs.Points.{tokens_of}
use Rattle.hs_base.specs.Checked.{KeepsOrderAt}
use Rattle.plan_index.specs.Contents.{Contents}
use Rattle.plan_check.specs.Lines.{size_of, IsFirstEmpty}
use Rattle.plan_check.specs.Standing.{MayStand, NoneMissing, IsStandFault}
use Rattle.plan_check.proofs.LoopLemmas.{each_all}
use Rattle.plan_check.proofs.OrderLemmas.{row_few, stand_fault, next_kept, grouped-push, order_kept, order_missing}
use Rattle.plan_check.proofs.order.check_order.Goals as goal

abbrev pub no_kind : Kind
no_kind = record { sv = record { 0 = 0 }; value = record { 0 = 0 } }

pub check_token-requires-clause-few : goal.check_token-requires-clause-few
check_token-requires-clause-few c =
    let tokens = c.as_slice-tokens.result.now in
    let i = c.loop-i.i in
    let v = (get_or tokens i no_kind).sv.0 in
    subst (λ (x : Contents). size_of (x.tokens ++ take i tokens) v < 2 ^ 32) (sym c.requires.index)
    (row_few c.args.mission.now c.args.plan.now.extensions c.args.extension.now tokens i v c.requires.checked.mission c.requires.checked.rules c.requires.before.1.0 c.as_slice-tokens.ensures)

pub returns-in_err-check_token-clause-fault : goal.returns-in_err-check_token-clause-fault
returns-in_err-check_token-clause-fault c =
    let m = c.args.mission.now in
    let tokens = c.as_slice-tokens.result.now in
    let i = c.loop-i.i in
    let f = c.in_err-check_token.field-0.0 in
    let p = err_from_is_err_and c.from_residual.result c.from_residual.ensures.1 in
    let fault = subst (λ (x : Contents). IsStandFault m (x.tokens ++ take i tokens) c.loop-i.lowest (get_or tokens i no_kind) f) c.requires.index c.in_err-check_token.ensures.fault in
    rw (p.1, p.2)
    (stand_fault m c.args.plan.now.extensions c.args.extension.now tokens c.as_slice-tokens.ensures i no_kind c.loop-i.lowest c.loop-i-test.true c.loop-i.invariant.grouped c.loop-i.invariant.kept f c.requires.before fault)

pub loop-i-preserved : goal.loop-i-preserved
loop-i-preserved c =
    let m = c.args.mission.now in
    let tokens = c.as_slice-tokens.result.now in
    let i = c.loop-i.i in
    let k = get_or tokens i no_kind in
    let inv = c.loop-i.invariant in
    let may = subst (λ (x : Contents). MayStand m (x.tokens ++ take i tokens) c.loop-i.lowest k) c.requires.index c.in_ok-check_token.ensures.stands in
    let none = subst (λ (x : Contents). NoneMissing (x.tokens ++ take i tokens) (length m.vars) k.sv.0) c.requires.index c.in_ok-check_token.ensures.missing in
    record {
      kept = next_kept m c.args.plan.now.extensions c.args.extension.now tokens c.as_slice-tokens.ensures i no_kind c.loop-i.lowest c.loop-i-test.true inv.grouped inv.kept none may;
      grouped = grouped-push tokens i no_kind c.loop-i.lowest c.loop-i-test.true inv.grouped may.grouped;
    }
