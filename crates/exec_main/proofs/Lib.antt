pub mod FrontLemmas
pub mod BuiltLemmas
pub mod FaultLemmas
pub mod GoodLemmas
