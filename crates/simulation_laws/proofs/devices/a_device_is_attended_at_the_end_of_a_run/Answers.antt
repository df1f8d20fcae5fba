use Rattle.simulation_laws.proofs.AttendLemmas.{attended, attended_before}
use Rattle.simulation_laws.proofs.devices.a_device_is_attended_at_the_end_of_a_run.Goals as goal

pub returns : goal.returns
returns c = record { asked = attended; unasked = attended_before }
