use Rattle.std.proofs.Common.{◌≤◌, length, ap, arith}
use Rattle.timeline_db.proofs.DoingLemmas.{rows_in}
use Rattle.timeline_db.proofs.LookLemmas.{if_none}
use Rattle.timeline_db.specs.Plannings.{Planning}
use Rattle.timeline_db.proofs.db.Db.line.Goals as goal

pub returns-clause-none : goal.returns-clause-none
returns-clause-none c =
    let size = rows_in c.self.inside c.self.invariant in
    if_none c.get.result _ (length c.args.self.now.mission.vars ≤ c.args.sv.0) _ c.get.ensures.lookup.3
    (λ past. omega (arith, ap length c.deref.ensures.value, ap (λ (s : Planning). length s.mission.vars) c.self.view_is))
