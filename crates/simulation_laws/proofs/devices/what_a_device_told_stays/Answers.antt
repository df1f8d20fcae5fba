use Rattle.hs_machine.specs.Reports.{scripts_of}
use Rattle.simulation_laws.proofs.PrefixLemmas.{told_prefix}
use Rattle.simulation_laws.proofs.devices.what_a_device_told_stays.Goals as goal

pub returns : goal.returns
returns c = λ m h d polls more k st a. told_prefix (scripts_of m h d) polls more k st a.standing
