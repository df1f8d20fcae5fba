-- The executive's events as those of the machine.
use Rattle.hs_machine.specs.Machine.{tick, fire, report, broken, handover, line}
use Rattle.hs_machine.specs.Machine as machine
use Rattle.exec_core.specs.declared.event.Event.{Event}
use Rattle.exec_core.specs.declared.event.Event.TheVariants.{Tick, Fire, Report, Broken, Handover, Line}

abbrev pub event_of : Event → machine.Event
event_of Tick = tick
event_of (Fire x) = fire x.0
event_of (Report x) = report x.0
event_of (Broken v) = broken v.0
event_of (Handover o) = handover o.plan.mission o.plan.plan.extensions
event_of (Line v) = line v.0
