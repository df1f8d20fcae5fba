-- A snapshot as the definitions have it.
use Rattle.hs_base.specs.Snapshots as views
use Rattle.plan_check.specs.declared.snapshot.Snapshot.{Snapshot}

abbrev pub seen : Snapshot → views.Snapshot
seen s = record { mission = s.plan.mission; plan = s.plan.plan.extensions; since = s.since; fixed = s.fixed; front = s.front }
