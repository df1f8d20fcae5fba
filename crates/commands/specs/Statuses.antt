-- The program's exit statuses.
use Rattle.std.specs.Prelude.{ℕ}
use Rattle.commands.specs.declared.status.Status.{Status}
use Rattle.commands.specs.declared.status.Status.TheVariants.{Done, Usage, Refused, NoPlan, Budget, PlanFailed, ReadFault, WriteFault, NoMemory, DeviceFault, PlanRefused}

abbrev pub code_of : Status → ℕ
code_of Done = 0
code_of Usage = 1
code_of Refused = 2
code_of NoPlan = 3
code_of Budget = 4
code_of PlanFailed = 5
code_of ReadFault = 6
code_of WriteFault = 7
code_of NoMemory = 8
code_of DeviceFault = 9
code_of PlanRefused = 11
