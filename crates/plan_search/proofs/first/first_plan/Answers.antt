use Rattle.std.proofs.Common.{◌≡◌, ◌∙◌, List, sym, subst}
use Rattle.std.specs.Prelude.{IfErr, IfOk}
use Rattle.hs_base.specs.declared.mission.Mission.{Mission}
use Rattle.plan_check.specs.Planned.{Planned}
use Rattle.plan_check.specs.Seen.{seen}
use Rattle.search_tree.specs.Begun.{Begun, begun_of}
use Rattle.search_tree.specs.Outset.{MayBegin}
use Rattle.plan_search.specs.First.{IsPlanned, IsPlannedFrom, IsUnplannedFrom, outset}
use Rattle.plan_search.proofs.OutsetLemmas.{planned_first}
use Rattle.plan_search.proofs.TurnLemmas.{if_ok}
use Rattle.timeline_db.proofs.OpeningLemmas.{begins_anywhere}
use Rattle.plan_search.proofs.first.first_plan.Goals as goal

pub plan_alone-requires-clause-begin : goal.plan_alone-requires-clause-begin
plan_alone-requires-clause-begin c =
    let s = c.in_ok-snapshot.snapshot in
    subst (λ (m : Mission). MayBegin m (begun_of (seen s))) (sym c.in_ok-snapshot.ensures.mission) (subst (λ (b : Begun). MayBegin c.args.mission.now b) (sym c.in_ok-snapshot.ensures.begun) (begins_anywhere c.args.mission.now c.requires))

pub returns-clause-mission : goal.returns-clause-mission
returns-clause-mission c = if_ok c.plan_alone.result (λ (x : Planned). x.mission ≡ c.in_ok-snapshot.snapshot.plan.mission) (λ (x : Planned). x.mission ≡ c.args.mission.now) (λ x is. is ∙ c.in_ok-snapshot.ensures.mission) c.plan_alone.ensures.mission

pub returns-clause-planned : goal.returns-clause-planned
returns-clause-planned c =
    let s = c.in_ok-snapshot.snapshot in
    let m = c.args.mission.now in
    let one = subst (λ (x : Mission). IfOk c.plan_alone.result (λ (p : Planned). IsPlannedFrom x (begun_of (seen s)) c.args.budget p.plan.extensions)) c.in_ok-snapshot.ensures.mission c.plan_alone.ensures.planned in
    let two = subst (λ (b : Begun). IfOk c.plan_alone.result (λ (p : Planned). IsPlannedFrom m b c.args.budget p.plan.extensions)) c.in_ok-snapshot.ensures.begun one in
    if_ok c.plan_alone.result (λ (p : Planned). IsPlannedFrom m outset c.args.budget p.plan.extensions) (λ (p : Planned). IsPlanned m c.args.budget p.plan.extensions) (λ p h. planned_first m c.args.budget p.plan.extensions c.requires h) two

pub returns-clause-unplanned : goal.returns-clause-unplanned
returns-clause-unplanned c =
    let s = c.in_ok-snapshot.snapshot in
    let m = c.args.mission.now in
    let one = subst (λ (x : Mission). IfErr c.plan_alone.result (IsUnplannedFrom x (begun_of (seen s)) c.args.budget)) c.in_ok-snapshot.ensures.mission c.plan_alone.ensures.unplanned in
    subst (λ (b : Begun). IfErr c.plan_alone.result (IsUnplannedFrom m b c.args.budget)) c.in_ok-snapshot.ensures.begun one
