pub mod OrderLemmas
pub mod SayingLemmas
pub mod StageLemmas
