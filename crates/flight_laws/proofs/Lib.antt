pub mod TurnLemmas
pub mod MeasureLemmas
pub mod DeviceLemmas
pub mod FlightLemmas
pub mod EndLemmas
pub mod FlyingLemmas
