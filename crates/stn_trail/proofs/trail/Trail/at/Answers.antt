use Rattle.stn_trail.proofs.TrailLemmas.{MeetsList-now}
use Rattle.stn_trail.proofs.trail.Trail.at.Goals as goal

pub returns-clause-kept : goal.returns-clause-kept
returns-clause-kept c =
    let t = c.self.inside in
    rw (← c.self.view_is) (MeetsList-now t.first t.count t.steps.items t.rows.items t.times.moves.items t.times.ticks.items c.self.invariant)
