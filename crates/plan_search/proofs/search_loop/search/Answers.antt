use Rattle.std.proofs.Common.{◌+◌, ◌≡◌, ℕ, List}
use Rattle.std.specs.Prelude.{⊤}
use Rattle.hs_base.specs.declared.mission.Mission.{Mission}
use Rattle.hs_base.specs.declared.plan.Extension.{Extension}
use Rattle.plan_check.specs.Seen.{seen}
use Rattle.search_laws.proofs.TreeLemmas.{none_left_out, none_left_out_at}
use Rattle.search_tree.specs.Begun.{begun_of}
use Rattle.search_tree.specs.Search.{FindsPlan, FindsPlanAt, FindsWhere, FindsWhereAt}
use Rattle.plan_search.proofs.TurnLemmas.{if_ok}
use Rattle.plan_search.specs.Told.{told}
use Rattle.plan_search.specs.declared.found.Found.{Found}
use Rattle.plan_search.proofs.search_loop.search.Goals as goal

pub returns-clause-found : goal.returns-clause-found
returns-clause-found g c =
    let m = c.args.snapshot.now.plan.mission in
    let b = begun_of (seen c.args.snapshot.now) in
    if_ok c.search_where.result (λ (f : Found). FindsWhere (λ (m : Mission) (es : List Extension). ⊤) m b c.args.budget (told f)) (λ (f : Found). FindsPlan m b c.args.budget (told f))
    (λ (f : Found) finds. none_left_out m b (λ (m : Mission) (es : List Extension). ⊤) (λ es. tt) c.args.budget (told f) finds)
    c.search_where.ensures.found

pub returns-clause-steps : goal.returns-clause-steps
returns-clause-steps g c =
    let m = c.args.snapshot.now.plan.mission in
    let b = begun_of (seen c.args.snapshot.now) in
    let before = c.args.steps.now in
    let after = c.search_where.new.steps in
    if_ok c.search_where.result (λ (f : Found). (nodes : ℕ) × FindsWhereAt (λ (m : Mission) (es : List Extension). ⊤) m b nodes (told f) × (after ≡ before + nodes)) (λ (f : Found). (nodes : ℕ) × FindsPlanAt m b nodes (told f) × (after ≡ before + nodes))
    (λ (f : Found) h. (h.0, none_left_out_at m b (λ (m : Mission) (es : List Extension). ⊤) (λ es. tt) h.0 (told f) h.1, h.2))
    c.search_where.ensures.steps
