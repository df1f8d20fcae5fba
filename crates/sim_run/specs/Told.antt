-- What devices tell of themselves, and what they have told since.
use Rattle.std.specs.Prelude.{◌≡◌, ℕ, ◌≤◌, ℤ, List, [], ◌∷◌, slice_get, Option, Some}
use Rattle.hs_machine.specs.Reports.{Polls}
use Rattle.hs_port.specs.Causes.{Rose}
use Rattle.hs_port.specs.declared.device.Answer.{Answer}
use Rattle.device_script.specs.Runs.{Stage, hearing}
use Rattle.simulation_laws.specs.Ended.{Adds}

-- what a device tells: its answered polls, where it tells them, and its faults
pub record Known : Type 0 where
  pub polls : Option Polls
  pub faults : ℕ

-- what is known of a device, where a type of devices tells it so
abbrev pub known : {D : Type 0} → (D → Option Polls) → (D → ℕ) → D → Known
known polls faults d = record { polls = polls d; faults = faults d }

-- since then it was polled so, and its faults didn't fall
pub record HasTold (before now : Known) (polls : Polls) : Type 0 where
  pub adds : Adds before.polls now.polls polls
  pub faults : before.faults ≤ now.faults

-- it answered no poll, and its faults rose
pub record HasFailed (before now : Known) : Type 0 where
  pub told : HasTold before now []
  pub rose : Rose before.faults now.faults

-- it answered a poll at that tick, and its script is left as it heard the answer
pub record HasAnswered (before now : Known) (old new : Stage) (at : ℤ) : Type 0 where
  pub answer : Answer
  pub told : HasTold before now ((at, answer) ∷ [])
  pub hears : new.left ≡ (hearing old answer).left

-- the faults of device d rose
pub record HasRisen (before now : List Known) (d : ℕ) : Type 0 where
  pub was : Known
  pub is : Known
  pub before_at : slice_get before d ≡ Some was
  pub now_at : slice_get now d ≡ Some is
  pub rose : Rose was.faults is.faults
