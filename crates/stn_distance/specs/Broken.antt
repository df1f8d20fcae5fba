-- What a broken search tells.
use Rattle.std.specs.Prelude.{List, ⊤}
use Rattle.hs_base.specs.declared.net.Bound.{Bound}
use Rattle.stn_distance.specs.declared.broken.Broken.{Broken}
use Rattle.stn_distance.specs.declared.broken.Broken.TheVariants.{Cycle, Memory}

-- P holds of the cycle, where there is one
abbrev pub IfCycle : Broken → (List Bound → Type 0) → Type 0
IfCycle (Cycle c) P = P c
IfCycle Memory P = ⊤
