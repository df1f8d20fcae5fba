use Rattle.std.proofs.Common.{refl, arith}
use Rattle.exec_core.proofs.KeptLemmas.{fail_kept}
use Rattle.exec_core.proofs.LawfulLemmas.{fail_may, fail_room, record_adds}
use Rattle.exec_core.proofs.PushLemmas.{pushed}
use Rattle.exec_core.proofs.exec.Exec.fail.Goals as goal

pub unwrap-requires : goal.unwrap-requires
unwrap-requires c = c.push.ensures.succeeds (let room = fail_room c.self.inside c.self.invariant c.args.self.now c.self.view_is c.args.deed c.requires.may c.requires.failure in omega (arith, room, c.self.inside.history.ok.0))

pub invariant_of-self : goal.invariant_of-self
invariant_of-self c =
    fail_kept c.self.inside _ c.self.invariant (record { by = c.args.by; deed = c.args.deed }) c.requires.failure
    (fail_may c.self.inside c.self.invariant c.args.self.now c.self.view_is c.args.deed c.requires.may c.requires.failure)
    (record { mission = refl; items = pushed c.push.result c.push.new.self.items c.self.inside.history.items _ (c.push.ensures.succeeds (let room = fail_room c.self.inside c.self.invariant c.args.self.now c.self.view_is c.args.deed c.requires.may c.requires.failure in omega (arith, room, c.self.inside.history.ok.0))) c.push.ensures.items; room = c.push.ensures.capacity })
    (record_adds c.self.inside c.self.invariant c.args.self.now c.self.view_is c.args.deed c.requires.may c.args.by)
    refl refl
