-- Why a run failed.
use Rattle.std.specs.Prelude.{List}
use Rattle.hs_base.specs.declared.mission.Mission.{Mission}
use Rattle.hs_base.specs.declared.net.Bound.{Bound}
use Rattle.hs_base.specs.Bounds.{bounds_of}
use Rattle.hs_machine.specs.declared.history.Entry.{Entry}
use Rattle.hs_machine.specs.State.{plan_of}
use Rattle.simulation_laws.specs.Ended.{IsFailedBy}
use Rattle.stn_distance.specs.Chains.{IsChain}

-- bounds of the newest plan that force the bound which the last entry names, a late or an early one
pub record IsReason (m : Mission) (h : List Entry) (chain : List Bound) : Type 0 where
  pub bound : Bound
  pub failed : IsFailedBy h bound
  pub forces : IsChain (bounds_of m (plan_of h)) bound chain
