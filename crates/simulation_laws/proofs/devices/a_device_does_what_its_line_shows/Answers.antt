use Rattle.simulation_laws.proofs.LineLemmas.{stands_by_line}
use Rattle.simulation_laws.proofs.devices.a_device_does_what_its_line_shows.Goals as goal

pub returns : goal.returns
returns c = λ m h d polls k st run is var s. stands_by_line m h run is d var polls k st s
