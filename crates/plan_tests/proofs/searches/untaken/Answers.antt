use Rattle.std.proofs.Common.{sym, subst}
use Rattle.hs_base.specs.declared.mission.Mission.{Mission}
use Rattle.plan_check.specs.Seen.{seen}
use Rattle.search_tree.specs.Begun.{Begun, begun_of}
use Rattle.search_tree.specs.Outset.{MayBegin}
use Rattle.timeline_db.proofs.OpeningLemmas.{begins_anywhere}
use Rattle.plan_tests.proofs.searches.untaken.Goals as goal

pub search_where-requires : goal.search_where-requires
search_where-requires g c =
    let s = c.in_ok-snapshot.snapshot in
    let m = c.in_ok-mission.mission in
    subst (λ (x : Mission). MayBegin x (begun_of (seen s))) (sym c.in_ok-snapshot.ensures.mission) (subst (λ (b : Begun). MayBegin m b) (sym c.in_ok-snapshot.ensures.begun) (begins_anywhere m c.in_ok-mission.ensures))
