use Rattle.std.proofs.Common.{List, Option, [], ap, arith, subst, sym, ℕ, ◌+◌, ◌++◌, ◌<◌, ◌^◌, ◌≡◌, ◌∙◌, ◌∷◌}
use Rattle.std.specs.List.{AllByRecursion}
use Rattle.std.specs.Prelude.{IfSome}
use Rattle.hs_base.specs.declared.mission.Mission.{Mission}
use Rattle.plan_check.specs.Planned.{Planned}
use Rattle.search_tree.specs.Begun.{Begun}
use Rattle.plan_search.proofs.AnswerLemmas.{budget_found, none_found, plan_found}
use Rattle.plan_search.proofs.SearchLemmas.{finds_none, searched_back}
use Rattle.plan_search.proofs.TurnLemmas.{below_budget, ends_here, if_none, path_fits}
use Rattle.plan_search.specs.Answered.{IsPlanAt}
use Rattle.plan_search.specs.Searched.{IsSearched, path_to}
use Rattle.plan_search.specs.declared.frames.Frame.{Frame}
use Rattle.plan_search.proofs.search_loop.search_below.Goals as goal

pub path_of-requires-clause-taken : goal.path_of-requires-clause-taken
path_of-requires-clause-taken g c =
    let i = c.nodes.invariant in
    subst (AllByRecursion (λ (f : Frame). (0 < f.next) × (f.next < 2 ^ 32))) (sym c.as_slice.ensures) (path_fits (g.F.Filter.test c.args.filter.now) c.nodes.db c.args.db.now.mission c.args.db.now.begun c.nodes.frames c.pop.new.self c.in-Some.frame c.nodes.taken i.mission i.begun c.was_allowed.ensures.begins c.was_allowed.ensures.allowed i.searched c.in-Some.ensures.some).0

pub path_of-requires-clause-child : goal.path_of-requires-clause-child
path_of-requires-clause-child g c =
    let i = c.nodes.invariant in
    let few = (path_fits (g.F.Filter.test c.args.filter.now) c.nodes.db c.args.db.now.mission c.args.db.now.begun c.nodes.frames c.pop.new.self c.in-Some.frame c.nodes.taken i.mission i.begun c.was_allowed.ensures.begins c.was_allowed.ensures.allowed i.searched c.in-Some.ensures.some).1 in
    omega (arith, few, c.if-frame-len.true, c.len.ensures)

pub returns-then-taken-budget-clause-unplanned : goal.returns-then-taken-budget-clause-unplanned
returns-then-taken-budget-clause-unplanned g c =
    let i = c.nodes.invariant in
    let m = c.args.db.now.mission in
    let b = c.args.db.now.begun in
    let takes = g.F.Filter.test c.args.filter.now in
    budget_found takes m b c.nodes.taken c.args.budget c.args.steps.now (c.nodes.steps + 1) c.in_ok-path_of.field-0 c.if-taken-budget.true i.steps
    (ends_here takes m b c.nodes.db.parts c.nodes.frames c.pop.new.self c.in-Some.frame c.in_ok-path_of.field-0 c.nodes.taken i.searched c.in-Some.ensures.some (omega (arith, c.if-frame-len.true, c.len.ensures)) (c.in_ok-path_of.ensures ∙ ap (λ (l : List Frame). path_to l ++ c.in-Some.frame.next ∷ []) c.as_slice.ensures))

pub returns-in-Some-child-clause-planned : goal.returns-in-Some-child-clause-planned
returns-in-Some-child-clause-planned g c =
    let i = c.nodes.invariant in
    let m = c.args.db.now.mission in
    let b = c.args.db.now.begun in
    let takes = g.F.Filter.test c.args.filter.now in
    let p = c.in-Some-child.plan in
    let one = subst (λ (o : Option Planned). IfSome o (IsPlanAt (g.F.Filter.test c.nodes.filter) c.nodes.db.mission c.nodes.db.begun (c.nodes.taken + 1))) c.in-Some-child.is c.in_ok-child.ensures.found in
    let here = subst (λ f. IsPlanAt (g.F.Filter.test f) m b (c.nodes.taken + 1) p) i.same
    (subst (λ (x : Mission). IsPlanAt (g.F.Filter.test c.nodes.filter) x b (c.nodes.taken + 1) p) i.mission
    (subst (λ (x : Begun). IsPlanAt (g.F.Filter.test c.nodes.filter) c.nodes.db.mission x (c.nodes.taken + 1) p) i.begun one)) in
    let below = below_budget c.nodes.taken c.args.budget i.within c.if-taken-budget.false in
    plan_found takes m b (c.nodes.taken + 1) c.args.budget c.args.steps.now (c.tick.new.self + 1) p (omega (arith, below)) (omega (arith, c.tick.ensures, i.steps)) here

pub returns-clause-unplanned : goal.returns-clause-unplanned
returns-clause-unplanned g c =
    let i = c.nodes.invariant in
    let m = c.args.db.now.mission in
    let b = c.args.db.now.begun in
    let takes = g.F.Filter.test c.args.filter.now in
    let none = if_none c.pop.result (c.nodes.frames ≡ []) c.in_default.not-Some c.pop.ensures.none in
    none_found takes m b c.nodes.taken c.args.budget c.args.steps.now (c.nodes.steps + 1) i.within i.steps (finds_none m b takes c.nodes.db.parts c.nodes.frames c.nodes.taken i.searched none)

pub nodes-preserved : goal.nodes-preserved
nodes-preserved g c =
    let i = c.nodes.invariant in
    record {
      mission = i.mission;
      begun = i.begun;
      same = i.same;
      searched = subst (λ (l : List Frame). IsSearched (g.F.Filter.test c.args.filter.now) c.args.db.now.mission c.args.db.now.begun c.nodes.db.parts l c.nodes.taken) (sym c.keep.ensures)
          (searched_back c.args.db.now.mission c.args.db.now.begun (g.F.Filter.test c.args.filter.now) c.nodes.db.parts c.nodes.frames c.pop.new.self c.in-Some.frame c.nodes.taken i.searched c.in-Some.ensures.some (omega (arith, c.if-frame-len.false, c.len.ensures)));
      steps = i.steps;
      within = i.within;
    }
