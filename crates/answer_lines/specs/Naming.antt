-- Which faults name points.
use Rattle.std.specs.Prelude.{⊤}
use Rattle.hs_base.specs.declared.fault.Fault.{Fault}
use Rattle.hs_base.specs.declared.fault.Fault.TheVariants.{Cycle}

-- the fault is a cycle of bounds between points of the plan
abbrev pub NamesPoints : Fault → Type 0
NamesPoints (Cycle bounds) = ⊤
NamesPoints _ = ⊥
