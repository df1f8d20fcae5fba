use Rattle.std.proofs.Common.{◌+◌, [], sym, subst, arith}
use Rattle.std.specs.Prelude.{IfErr, IfOk}
use Rattle.search_tree.specs.Begun.{begun_of}
use Rattle.search_tree.specs.Search.{root}
use Rattle.plan_check.specs.Seen.{seen}
use Rattle.timeline_db.specs.Plannings.{Planning}
use Rattle.plan_search.specs.Answered.{IsNoneFound, IsPlanFound}
use Rattle.plan_search.proofs.AnswerLemmas.{budget_found, none_earlier, plan_earlier, plan_found}
use Rattle.plan_search.proofs.SearchLemmas.{finds_budget, reaches_root}
use Rattle.plan_search.proofs.TurnLemmas.{if_err, if_ok}
use Rattle.plan_search.proofs.search_loop.plan_where.Goals as goal

pub returns-then-budget-eq0-clause-unplanned : goal.returns-then-budget-eq0-clause-unplanned
returns-then-budget-eq0-clause-unplanned g c =
    let m = c.args.snapshot.now.plan.mission in
    let b = begun_of (seen c.args.snapshot.now) in
    let takes = g.F.Filter.test c.args.filter.now in
    budget_found takes m b 0 c.args.budget c.args.steps.now c.args.steps.now c.new.result (sym c.if-budget-eq0.true) (omega arith) (finds_budget m b takes [] [] (root m b) c.new.result 0 (reaches_root m b takes) c.new.ensures)

pub returns-in-Some-clause-planned : goal.returns-in-Some-clause-planned
returns-in-Some-clause-planned g c =
    let takes = g.F.Filter.test c.args.filter.now in
    let d = c.in_ok-db.db in
    let found = rw c.in-Some.is at c.in_ok-plan.ensures.found in
    subst (λ (d : Planning). IsPlanFound takes d.mission d.begun c.args.budget c.args.steps.now c.tick.new.self c.in-Some.plan) c.in_ok-db.ensures.begins
    (plan_found takes d.mission d.begun 1 c.args.budget c.args.steps.now c.tick.new.self c.in-Some.plan (omega arith) c.tick.ensures found)

pub returns-clause-planned : goal.returns-clause-planned
returns-clause-planned g c =
    let takes = g.F.Filter.test c.args.filter.now in
    let m = c.args.snapshot.now.plan.mission in
    let b = begun_of (seen c.args.snapshot.now) in
    let d = c.in_ok-db.db in
    let before = c.args.steps.now in
    let after = c.search_below.new.steps in
    let one = subst (λ x. IfOk c.search_below.result (IsPlanFound (g.F.Filter.test x) d.mission d.begun c.args.budget c.tick.new.self (after + 1))) c.enter.ensures.same c.search_below.ensures.planned in
    let two = subst (λ (d : Planning). IfOk c.search_below.result (IsPlanFound takes d.mission d.begun c.args.budget c.tick.new.self (after + 1))) c.in_ok-db.ensures.begins one in
    let three = subst (λ n. IfOk c.search_below.result (IsPlanFound takes m b c.args.budget n (after + 1))) c.tick.ensures two in
    if_ok c.search_below.result (IsPlanFound takes m b c.args.budget (before + 1) (after + 1)) (IsPlanFound takes m b c.args.budget before after) (plan_earlier takes m b c.args.budget before after) three

pub returns-clause-unplanned : goal.returns-clause-unplanned
returns-clause-unplanned g c =
    let takes = g.F.Filter.test c.args.filter.now in
    let m = c.args.snapshot.now.plan.mission in
    let b = begun_of (seen c.args.snapshot.now) in
    let d = c.in_ok-db.db in
    let before = c.args.steps.now in
    let after = c.search_below.new.steps in
    let one = subst (λ x. IfErr c.search_below.result (IsNoneFound (g.F.Filter.test x) d.mission d.begun c.args.budget c.tick.new.self (after + 1))) c.enter.ensures.same c.search_below.ensures.unplanned in
    let two = subst (λ (d : Planning). IfErr c.search_below.result (IsNoneFound takes d.mission d.begun c.args.budget c.tick.new.self (after + 1))) c.in_ok-db.ensures.begins one in
    let three = subst (λ n. IfErr c.search_below.result (IsNoneFound takes m b c.args.budget n (after + 1))) c.tick.ensures two in
    if_err c.search_below.result (IsNoneFound takes m b c.args.budget (before + 1) (after + 1)) (IsNoneFound takes m b c.args.budget before after) (none_earlier takes m b c.args.budget before after) three
