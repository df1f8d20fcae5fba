-- The bound of a failed run is forced by its plan, and in the range of what may be asked.
use Rattle.std.proofs.Common.{◌≡◌, List, sym, subst}
use Rattle.hs_base.specs.declared.mission.Mission.{Mission}
use Rattle.hs_base.specs.declared.net.Bound.{Bound}
use Rattle.hs_base.specs.declared.plan.Extension.{Extension}
use Rattle.hs_base.specs.Points.{count}
use Rattle.hs_machine.specs.declared.history.Entry.{Entry}
use Rattle.hs_machine.specs.Run.{Run}
use Rattle.hs_machine.specs.State.{plan_of}
use Rattle.simulation_laws.specs.Ended.{IsFailedBy}
use Rattle.simulation_laws.specs.Failing.{IsForcedBy}
use Rattle.simulation_laws.proofs.FailLemmas.{failed_by_tight}
use Rattle.stn_distance.specs.Ranges.{IsInRange}

module _ (m : Mission) (h : List Entry) (b : Bound) (run : Run m h) (failed : IsFailedBy h b) (es : List Extension) (is : es ≡ plan_of h) where
  pub forced_here : IsForcedBy m es b
  forced_here = subst (λ (l : List Extension). IsForcedBy m l b) (sym is) (failed_by_tight m h b run failed)

  pub in_range : IsInRange (count es) b
  in_range = let f = forced_here.fit in record { from_below = f.from; to_below = f.to; low = f.least; high = f.most }
