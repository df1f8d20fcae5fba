use Rattle.std.proofs.Common.{◌≡◌, map, take}
use Rattle.hs_base.specs.declared.mission.Value.{Value}
use Rattle.device_script.specs.Telling.{coming}
use Rattle.device_script.proofs.told.turns_of.Given as goal

abbrev pub invariant-loop-i : goal.invariant-loop-i
invariant-loop-i l = map coming l.turns.items ≡ map (λ (v : Value). v.answers) (take l.i l.var.values)
