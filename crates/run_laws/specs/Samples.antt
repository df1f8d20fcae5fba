-- A history of the camera mission, on which the definitions are tested.
use Rattle.std.specs.Prelude.{List, [], ◌∷◌}
use Rattle.hs_base.specs.declared.net.Net.{Net}
use Rattle.hs_machine.specs.declared.history.Deed.TheVariants.{Tick, Fire, Handover}
use Rattle.hs_machine.specs.declared.history.Entry.{Entry}
use Rattle.base_laws.specs.Samples.{camera_extension}

-- a history of the camera mission: the plan is handed over with some network, and the first turn begins at 1
abbrev pub entry_of_tick : Entry
entry_of_tick = record { by = 0; deed = Tick }

abbrev pub camera_history : Net → List Entry
camera_history n = record { by = 0; deed = Handover camera_extension n } ∷ entry_of_tick ∷ record { by = 0; deed = Fire (record { 0 = 5 }) } ∷ entry_of_tick ∷ []
