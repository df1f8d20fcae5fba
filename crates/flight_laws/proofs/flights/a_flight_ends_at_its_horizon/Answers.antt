use Rattle.flight_laws.proofs.EndLemmas.{flight_ends}
use Rattle.flight_laws.proofs.flights.a_flight_ends_at_its_horizon.Goals as goal

pub returns : goal.returns
returns c = flight_ends
