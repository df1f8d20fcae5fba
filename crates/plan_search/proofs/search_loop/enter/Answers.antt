use Rattle.std.proofs.Common.{List, [], ap, refl, subst, sym, ◌+◌, ◌++◌, ◌∙◌, ◌∷◌}
use Rattle.plan_search.proofs.AnswerLemmas.{whole_plan}
use Rattle.plan_search.proofs.SearchLemmas.{reached_checked, searched_inner, searched_leaf}
use Rattle.plan_search.specs.Searched.{IsSearched, path_to}
use Rattle.plan_search.specs.Visits.{IsVisited}
use Rattle.plan_search.specs.declared.frames.Frame.{Frame}
use Rattle.timeline_db.specs.Plannings.{partial_of}
use Rattle.plan_search.proofs.search_loop.enter.Goals as goal

pub visit-requires-clause-checked : goal.visit-requires-clause-checked
visit-requires-clause-checked g c = λ flawless.
    let d = c.args.db.now in
    let fs = c.args.frames.now in
    reached_checked d.mission d.begun (g.F.Filter.test c.args.filter.now) c.was_allowed.ensures.begins d.parts fs (record { path = path_to fs; plan = partial_of d }) c.args.taken c.requires.reached c.requires.ahead flawless

pub returns-in_ok-push-in-Inner-clause-more : goal.returns-in_ok-push-in-Inner-clause-more
returns-in_ok-push-in-Inner-clause-more g c =
    let d = c.args.db.now in
    let fs = c.args.frames.now in
    let v = subst (IsVisited (g.F.Filter.test c.args.filter.now) d) c.in-Inner.is c.in_ok-frame.ensures.visited in
    subst (λ (l : List Frame). IsSearched (g.F.Filter.test c.args.filter.now) d.mission d.begun d.parts l (c.args.taken + 1)) (sym (c.in_ok-push-in-Inner.ensures ∙ ap (λ (l : List Frame). l ++ c.in-Inner.frame ∷ []) c.visit.ensures.frames))
    (searched_inner d.mission d.begun (g.F.Filter.test c.args.filter.now) d.parts fs (record { path = path_to fs; plan = partial_of d }) c.in-Inner.frame c.args.taken c.requires.reached c.requires.ahead refl v.head v.listed v.next v.mark)

pub returns-in-Plan-clause-found : goal.returns-in-Plan-clause-found
returns-in-Plan-clause-found g c =
    let d = c.args.db.now in
    let fs = c.args.frames.now in
    let v = subst (IsVisited (g.F.Filter.test c.args.filter.now) d) c.in-Plan.is c.in_ok-frame.ensures.visited in
    whole_plan (g.F.Filter.test c.args.filter.now) d fs c.in-Plan.plan c.args.taken c.requires.reached c.requires.ahead v.0 v.1

pub returns-in-Leaf-clause-more : goal.returns-in-Leaf-clause-more
returns-in-Leaf-clause-more g c =
    let d = c.args.db.now in
    let fs = c.args.frames.now in
    let v = subst (IsVisited (g.F.Filter.test c.args.filter.now) d) c.in-Leaf.is c.in_ok-frame.ensures.visited in
    subst (λ (l : List Frame). IsSearched (g.F.Filter.test c.args.filter.now) d.mission d.begun d.parts l (c.args.taken + 1)) (sym c.visit.ensures.frames)
    (searched_leaf d.mission d.begun (g.F.Filter.test c.args.filter.now) d.parts fs (record { path = path_to fs; plan = partial_of d }) c.args.taken c.requires.reached c.requires.ahead v.0 v.1)
