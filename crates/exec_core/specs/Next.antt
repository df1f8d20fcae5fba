-- Whether an offered plan is the next one.
use Rattle.std.specs.Prelude.{◌≡◌, ℕ, true, false, List}
use Rattle.hs_base.specs.declared.plan.Extension.{Extension}
use Rattle.hs_machine.specs.Machine.{Event, handover, Replies, IsNext, IsNotNext, needs_net, is_over, leaves_deed}
use Rattle.hs_machine.specs.State.{plan_of, phase_of}
use Rattle.plan_check.specs.Planned.{Planned}
use Rattle.exec_core.specs.Recorded.{Recorded}
use Rattle.exec_core.specs.Replies.{reply_of}
use Rattle.exec_core.specs.declared.reply.Reply.{Reply}
use Rattle.exec_core.specs.declared.reply.Reply.TheVariants.{NotNext}

-- the reply tells how far the newest plan and the offered one agree, which isn't the next one
pub record TellsNotNext (newest offered : List Extension) (r : Reply) : Type 0 where
  pub current : ℕ
  pub agree : ℕ
  pub is : r ≡ NotNext current agree
  pub apart : IsNotNext newest offered current agree

-- the reply to every event that asks for a plan in execution, where none is
abbrev pub IsTurnedAway : Recorded → Reply → Type 0
IsTurnedAway r reply = (event : Event) → needs_net event ≡ true → Replies r.mission r.history event (reply_of reply)

-- the offered plan is taken, unless it comes too late or memory is wanting
pub record MayTake (r : Recorded) (p : Planned) : Type 0 where
  pub going : is_over (phase_of r.history) ≡ false
  pub mission : p.mission ≡ r.mission
  pub next : IsNext (plan_of r.history) p.plan.extensions

-- the reply to the offered plan, where it isn't
pub record IsTurnedDown (r : Recorded) (p : Planned) (reply : Reply) : Type 0 where
  pub lawful : Replies r.mission r.history (handover p.mission p.plan.extensions) (reply_of reply)
  pub kept : leaves_deed (reply_of reply) ≡ false
