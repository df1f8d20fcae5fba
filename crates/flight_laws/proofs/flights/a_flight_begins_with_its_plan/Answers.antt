use Rattle.flight_laws.proofs.FlightLemmas.{flight_handed}
use Rattle.flight_laws.proofs.flights.a_flight_begins_with_its_plan.Goals as goal

pub returns : goal.returns
returns c = λ m n es by h mission turn. flight_handed m es by n h mission turn
