use Rattle.std.proofs.Common.{◌≡◌, ◌+◌, ◌<◌, ◌≤◌, arith, ap, sym, ◌∙◌, get_or, length, not, None, Some}
use Rattle.std.proofs.lemmas.List.{get_or_past}
use Rattle.hs_base.specs.Points.{horizon, place_of}
use Rattle.hs_base.specs.declared.plan.Plan.{Plan}
use Rattle.hs_machine.specs.Views.{first_waiting, marks_of}
use Rattle.dispatcher.specs.State.{time_in}
use Rattle.plan_check.proofs.WithinLemmas.{few_extensions}
use Rattle.plan_index.specs.Contents.{Contents}
use Rattle.line_view.proofs.LineLemmas.{a_time, length-marks, mark_at, mark_there, no_time, waits_behind, waits_here}
use Rattle.line_view.proofs.current.next_mark.Goals as goal

pub overflow_cast-k : goal.overflow_cast-k
overflow_cast-k c =
    let p = c.args.plan.now in
    let k = c.plan.ensures.checked in
    omega (arith, few_extensions p.mission k.mission p.plan.extensions k.rules, ap (λ (q : Plan). length q.extensions) c.plan.ensures.plan)

pub overflow_add-k : goal.overflow_add-k
overflow_add-k c =
    let p = c.args.plan.now in
    let k = c.plan.ensures.checked in
    omega (arith, few_extensions p.mission k.mission p.plan.extensions k.rules, ap (λ (q : Plan). length q.extensions) c.plan.ensures.plan)

pub time-requires : goal.time-requires
time-requires c =
    let es = c.args.plan.now.plan.extensions in
    let below : c.loop-k.k < length es = omega (arith, c.loop-k-test.true, ap (λ (q : Plan). length q.extensions) c.plan.ensures.plan) in
    let mark = c.horizon-mark.ensures ∙ ap (λ (x : Contents). place_of (horizon (c.loop-k.k + 1)) x.points) c.index.ensures in
    omega (arith, mark, mark_there es c.loop-k.k below, c.requires)

pub returns-then-is_none : goal.returns-then-is_none
returns-then-is_none c =
    let es = c.args.plan.now.plan.extensions in
    let at = time_in c.args.dispatch.now in
    let below : c.loop-k.k < length es = omega (arith, c.loop-k-test.true, ap (λ (q : Plan). length q.extensions) c.plan.ensures.plan) in
    let mark : c.horizon-mark.result.0 ≡ get_or (marks_of es) c.loop-k.k 0 = c.horizon-mark.ensures ∙ ap (λ (x : Contents). place_of (horizon (c.loop-k.k + 1)) x.points) c.index.ensures ∙ sym (mark_at es c.loop-k.k 0 below) in
    let none : at (get_or (marks_of es) c.loop-k.k 0) ≡ None = ap at (sym mark) ∙ sym c.time.ensures ∙ no_time c.time.result (c.is_none.ensures ∙ ap not c.if-is_none.true) in
    let here = waits_here at (marks_of es) c.loop-k.k 0 (omega (arith, below, length-marks es)) none in
    let first : first_waiting at (marks_of es) ≡ c.loop-k.k = omega (arith, c.loop-k.invariant, here) in
    mark ∙ ap (λ i. get_or (marks_of es) i 0) (sym first)

pub loop-k-preserved : goal.loop-k-preserved
loop-k-preserved c =
    let es = c.args.plan.now.plan.extensions in
    let at = time_in c.args.dispatch.now in
    let below : c.loop-k.k < length es = omega (arith, c.loop-k-test.true, ap (λ (q : Plan). length q.extensions) c.plan.ensures.plan) in
    let mark : c.horizon-mark.result.0 ≡ get_or (marks_of es) c.loop-k.k 0 = c.horizon-mark.ensures ∙ ap (λ (x : Contents). place_of (horizon (c.loop-k.k + 1)) x.points) c.index.ensures ∙ sym (mark_at es c.loop-k.k 0 below) in
    let t = a_time c.time.result (c.is_none.ensures ∙ ap not c.if-is_none.false) in
    let some : at (get_or (marks_of es) c.loop-k.k 0) ≡ Some t.0 = ap at (sym mark) ∙ sym c.time.ensures ∙ t.1 in
    let behind = waits_behind at (marks_of es) c.loop-k.k 0 t.0 (omega (arith, below, length-marks es)) some in
    omega (arith, c.loop-k.invariant, behind)

pub returns : goal.returns
returns c =
    let es = c.args.plan.now.plan.extensions in
    let at = time_in c.args.dispatch.now in
    let all : length (marks_of es) ≤ c.loop-k.k = omega (arith, c.loop-k-test.false, ap (λ (q : Plan). length q.extensions) c.plan.ensures.plan, length-marks es) in
    sym (get_or_past (marks_of es) (first_waiting at (marks_of es)) 0 (omega (arith, all, c.loop-k.invariant)))
