use Rattle.std.proofs.Common.{refl, arith, sym, subst, ap}
use Rattle.std.specs.Prelude.{is_ok}
use Rattle.exec_core.specs.Kept.{IsKept}
use Rattle.exec_core.proofs.PushLemmas.{pushed}
use Rattle.exec_core.proofs.KeptLemmas.{tick_kept}
use Rattle.exec_core.proofs.LawfulLemmas.{tick_open, tick_goes, tick_room, tick_adds, tick_flies}
use Rattle.exec_core.proofs.exec.Exec.advance.Goals as goal
use Rattle.exec_core.proofs.exec.Exec.advance.Goals.{in-Some, in-None}

pub unwrap-requires : goal.unwrap-requires
unwrap-requires c = c.push.ensures.succeeds (let room = tick_room c.self.inside c.self.invariant c.args.self.now c.self.view_is c.requires in omega (arith, room, c.self.inside.history.ok.0))

pub advance-requires-clause-open : goal.advance-requires-clause-open
advance-requires-clause-open c = (c.in-Some.flight.mark.0, tick_open c.self.inside c.self.invariant c.args.self.now c.self.view_is c.requires c.in-Some.flight c.in-Some.is)

pub advance-requires-clause-may : goal.advance-requires-clause-may
advance-requires-clause-may c = tick_goes c.self.inside c.self.invariant c.args.self.now c.self.view_is c.requires c.in-Some.flight c.in-Some.is

pub invariant_of-self : goal.invariant_of-self
invariant_of-self c = elim c.match-self.branch [
  | in-Some w ↦ subst IsKept (sym w.self-inside-is) (tick_kept c.self.inside _ c.self.invariant w.in-Some.flight _ w.in-Some.is refl c.args.by
      (record { mission = refl; items = pushed c.push.result c.push.new.self.items c.self.inside.history.items _ (ap is_ok c.unwrap.ensures) c.push.ensures.items; room = c.push.ensures.capacity })
      (tick_adds c.self.inside c.self.invariant c.args.self.now c.self.view_is c.requires c.args.by) refl (record { plan = refl; mark = refl; dispatch = w.advance.ensures }))
  | in-None w ↦ absurd (tick_flies c.self.inside c.self.invariant c.args.self.now c.self.view_is c.requires w.in-None.is)
]
