-- What is told where bounds have no schedule.
use Rattle.std.specs.Prelude.{List}
use Rattle.hs_base.specs.declared.mission.Mission.{Mission}
use Rattle.hs_base.specs.declared.plan.Extension.{Extension}
use Rattle.hs_base.specs.declared.fault.Fault.{Fault}
use Rattle.hs_base.specs.declared.fault.Fault.TheVariants.{Cycle, Memory}
use Rattle.hs_base.specs.Cycles.{IsNegativeCycle}
use Rattle.hs_base.specs.Bounds.{bounds_of}

-- a negative cycle of the plan's bounds, or want of memory
abbrev pub IsCycleFault : Mission → List Extension → Fault → Type 0
IsCycleFault m es (Cycle bs) = IsNegativeCycle (bounds_of m es) bs
IsCycleFault m es Memory = Unit {0}
IsCycleFault m es _ = ⊥
