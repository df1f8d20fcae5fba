-- Why a part was not done.
use Rattle.std.specs.Prelude.{◌≡◌}
use Rattle.stn_distance.specs.declared.broken.Broken.{Broken}
use Rattle.stn_distance.specs.declared.broken.Broken.TheVariants.{Cycle as BrokenCycle, Memory as BrokenMemory}
use Rattle.timeline_db.specs.declared.shut.Shut.{Shut}
use Rattle.timeline_db.specs.declared.shut.Shut.TheVariants.{Cycle, Full, Memory}

-- what is told of a bound that was refused
abbrev pub IsShutBy : Broken → Shut → Type 0
IsShutBy (BrokenCycle bs) shut = shut ≡ Cycle bs
IsShutBy BrokenMemory shut = shut ≡ Memory

-- P holds where the bounds have no schedule, and else there is no memory
abbrev pub IfCycle : Shut → Type 0 → Type 0
IfCycle (Cycle bs) P = P
IfCycle Full P = ⊥
IfCycle Memory P = Unit {0}

-- P holds at a cycle, Q where one more token is over the limits, and else there is no memory
abbrev pub IfCycleOrFull : Shut → Type 0 → Type 0 → Type 0
IfCycleOrFull (Cycle bs) P Q = P
IfCycleOrFull Full P Q = Q
IfCycleOrFull Memory P Q = Unit {0}
