use Rattle.std.proofs.Common.{◌≡◌, List}
use Rattle.std.specs.Prelude.{⊤}
use Rattle.hs_base.specs.declared.mission.Mission.{Mission}
use Rattle.hs_base.specs.declared.plan.Extension.{Extension}
use Rattle.plan_check.specs.Planned.{Planned}
use Rattle.plan_check.specs.Seen.{seen}
use Rattle.search_tree.specs.Begun.{begun_of}
use Rattle.plan_search.specs.Answered.{IsNoneFound, IsPlanFound}
use Rattle.plan_search.specs.First.{IsPlannedFrom, IsUnplannedFrom}
use Rattle.plan_search.proofs.OutsetLemmas.{planned_from, unplanned_from}
use Rattle.plan_search.proofs.TurnLemmas.{if_err, if_ok}
use Rattle.plan_search.proofs.first.plan_alone.Goals as goal

pub returns-clause-mission : goal.returns-clause-mission
returns-clause-mission g c =
    let m = c.args.snapshot.now.plan.mission in
    let b = begun_of (seen c.args.snapshot.now) in
    if_ok c.plan_where.result (IsPlanFound (λ (m : Mission) (es : List Extension). ⊤) m b c.args.budget c.begin-steps.result c.plan_where.new.steps) (λ (x : Planned). x.mission ≡ m) (λ x p. p.mission) c.plan_where.ensures.planned

pub returns-clause-planned : goal.returns-clause-planned
returns-clause-planned g c =
    let m = c.args.snapshot.now.plan.mission in
    let b = begun_of (seen c.args.snapshot.now) in
    if_ok c.plan_where.result (IsPlanFound (λ (m : Mission) (es : List Extension). ⊤) m b c.args.budget c.begin-steps.result c.plan_where.new.steps) (λ (x : Planned). IsPlannedFrom m b c.args.budget x.plan.extensions) (planned_from m b c.args.budget c.begin-steps.result c.plan_where.new.steps) c.plan_where.ensures.planned

pub returns-clause-unplanned : goal.returns-clause-unplanned
returns-clause-unplanned g c =
    let m = c.args.snapshot.now.plan.mission in
    let b = begun_of (seen c.args.snapshot.now) in
    if_err c.plan_where.result (IsNoneFound (λ (m : Mission) (es : List Extension). ⊤) m b c.args.budget c.begin-steps.result c.plan_where.new.steps) (IsUnplannedFrom m b c.args.budget) (unplanned_from m b c.args.budget c.begin-steps.result c.plan_where.new.steps) c.plan_where.ensures.unplanned
