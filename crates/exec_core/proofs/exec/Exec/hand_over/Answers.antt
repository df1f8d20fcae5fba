use Rattle.std.proofs.Common.{refl, sym, subst}
use Rattle.hs_machine.specs.Machine.{Turn, handover, memory}
use Rattle.exec_laws.proofs.StepLemmas.{turn_kept}
use Rattle.exec_core.specs.Recorded.{Recorded}
use Rattle.exec_core.proofs.LawfulLemmas.{memory_lawful}
use Rattle.exec_core.proofs.exec.Exec.hand_over.Goals as goal

pub returns-in-Err-clause-turn : goal.returns-in-Err-clause-turn
returns-in-Err-clause-turn c =
    let r = c.args.self.now in
    let p = c.args.offer.plan in
    let kept : Turn r.mission r.history c.args.by (handover p.mission p.plan.extensions) memory r.history =
    turn_kept r.mission r.history c.args.by (handover p.mission p.plan.extensions) memory (memory_lawful r.mission r.history p.mission p.plan.extensions c.in_default.ensures.going) refl in
    subst (λ (x : Recorded). Turn r.mission r.history c.args.by (handover p.mission p.plan.extensions) memory x.history) (sym c.in-Err.ensures.err) kept
