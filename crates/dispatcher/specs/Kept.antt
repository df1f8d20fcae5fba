-- The view of a Course's fields, and what is kept of them.
use Rattle.std.specs.Prelude.{◌≤◌, ◌^◌, length}
use Rattle.dispatcher.specs.declared.course.Course.TheInside.{Inside}
use Rattle.dispatcher.specs.State.{State, IsLawful}
use Rattle.dispatcher.specs.Places.{ArePlaces}
use Rattle.dispatcher.specs.Index.{AreSetBy, AreKnown, AreWaits, numbers_of}

abbrev pub state_of : Inside → State
state_of d = record { net = d.net; observed = d.observed; times = d.times.items; tick = d.tick }

pub record IsKept (d : Inside) : Type 0 where
  pub state : IsLawful (state_of d)
  pub set : AreSetBy d.net d.times.items d.windows
  pub places : ArePlaces (length d.times.items) d.net d.places.items
  pub known : AreKnown d.net d.times.items (numbers_of d.known.items)
  pub waits : AreWaits d.windows d.places.items d.times.items d.until
  pub small : length d.times.items ≤ 2 ^ 32
