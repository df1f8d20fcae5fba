use Rattle.std.proofs.Common.{◌≡◌, take}
use Rattle.stn_trail.specs.Held.{added}
use Rattle.stn_trail.specs.History.{parts_of}
use Rattle.stn_trail.proofs.solving.bounds_of.Given as goal

abbrev pub invariant-loop-step : goal.invariant-loop-step
invariant-loop-step l = l.bounds.items ≡ added (parts_of (take l.step-index l.steps))
