use Rattle.std.proofs.Common.{◌≡◌, true, false, sym, subst}
use Rattle.hs_machine.specs.State.{phase_of}
use Rattle.hs_machine.specs.declared.history.Phase.TheVariants.{Running, Ended}
use Rattle.exec_core.specs.Recorded.{Recorded}
use Rattle.exec_core.proofs.KeptLemmas.{mark_in, phase_if_flying}
use Rattle.exec_core.proofs.exec.Exec.phase.Goals as goal

pub is_ended-requires : goal.is_ended-requires
is_ended-requires c = mark_in c.self.inside c.self.invariant c.in-Some.flight c.in-Some.is

pub returns-then-is_ended : goal.returns-then-is_ended
returns-then-is_ended c = subst (λ (r : Recorded). Ended ≡ phase_of r.history) c.self.view_is (sym (phase_if_flying c.self.inside c.self.invariant c.in-Some.flight true c.if-self.false c.in-Some.is c.if-is_ended.ensures))

pub returns-else-is_ended : goal.returns-else-is_ended
returns-else-is_ended c = subst (λ (r : Recorded). Running ≡ phase_of r.history) c.self.view_is (sym (phase_if_flying c.self.inside c.self.invariant c.in-Some.flight false c.if-self.false c.in-Some.is c.if-is_ended.ensures))
