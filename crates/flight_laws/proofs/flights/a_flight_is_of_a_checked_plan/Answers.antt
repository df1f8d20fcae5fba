use Rattle.flight_laws.proofs.FlightLemmas.{flight_checked}
use Rattle.flight_laws.proofs.flights.a_flight_is_of_a_checked_plan.Goals as goal

pub returns : goal.returns
returns c = flight_checked
