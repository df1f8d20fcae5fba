use Rattle.std.proofs.Common.{refl, arith, sym, subst, ap}
use Rattle.std.specs.Prelude.{is_ok}
use Rattle.exec_core.specs.Kept.{IsKept}
use Rattle.exec_core.proofs.PushLemmas.{pushed}
use Rattle.exec_core.proofs.KeptLemmas.{point_kept}
use Rattle.exec_core.proofs.LawfulLemmas.{point_open, point_fires, point_room, point_may, point_flies, record_adds}
use Rattle.exec_core.proofs.exec.Exec.execute.Goals as goal
use Rattle.exec_core.proofs.exec.Exec.execute.Goals.{in-Some, in-None}

pub unwrap-requires : goal.unwrap-requires
unwrap-requires c = c.push.ensures.succeeds (let room = point_room c.self.inside c.self.invariant c.args.self.now c.self.view_is c.args.deed c.requires.may c.args.point c.requires.is in omega (arith, room, c.self.inside.history.ok.0))

pub set-requires-clause-open : goal.set-requires-clause-open
set-requires-clause-open c = point_open c.self.inside c.self.invariant c.args.self.now c.self.view_is c.args.deed c.requires.may c.args.point c.requires.is c.in-Some.flight c.in-Some.is

pub set-requires-clause-may : goal.set-requires-clause-may
set-requires-clause-may c = point_fires c.self.inside c.self.invariant c.args.self.now c.self.view_is c.args.deed c.requires.may c.args.point c.requires.is c.in-Some.flight c.in-Some.is

pub invariant_of-self : goal.invariant_of-self
invariant_of-self c = elim c.match-self.branch [
  | in-Some w ↦ subst IsKept (sym w.self-inside-is) (point_kept c.self.inside _ c.self.invariant w.in-Some.flight _ w.in-Some.is refl (record { by = c.args.by; deed = c.args.deed }) c.args.point c.requires.is
      (point_may c.self.inside c.self.invariant c.args.self.now c.self.view_is c.args.deed c.requires.may c.args.point c.requires.is)
      (record { mission = refl; items = pushed c.push.result c.push.new.self.items c.self.inside.history.items _ (ap is_ok c.unwrap.ensures) c.push.ensures.items; room = c.push.ensures.capacity })
      (record_adds c.self.inside c.self.invariant c.args.self.now c.self.view_is c.args.deed c.requires.may c.args.by) refl (record { plan = refl; mark = refl; dispatch = w.set.ensures }))
  | in-None w ↦ absurd (point_flies c.self.inside c.self.invariant c.args.self.now c.self.view_is c.args.deed c.requires.may c.args.point c.requires.is w.in-None.is)
]
