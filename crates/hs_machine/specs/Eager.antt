-- Histories in which no point waits that could be fired.
use Rattle.std.specs.Prelude.{◌≡◌, ℕ, true, List, []}
use Rattle.hs_base.specs.declared.mission.Mission.{Mission}
use Rattle.hs_machine.specs.Types.{Entry}
use Rattle.hs_base.specs.Walks.{EachAfter}
use Rattle.hs_machine.specs.State.{is_tick}
use Rattle.hs_machine.specs.Machine.{Replies, fire, done}

-- the machine would answer no Fire with Done
abbrev pub NoneMayFire : Mission → List Entry → Type 0
NoneMayFire m h = (x : ℕ) → Replies m h (fire x) done → ⊥

-- the time goes on only where that is so
abbrev pub Eager : Mission → List Entry → Type 0
Eager m h = EachAfter (λ before e. is_tick e.deed ≡ true → NoneMayFire m before) [] h
