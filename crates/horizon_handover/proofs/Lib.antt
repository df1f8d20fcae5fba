pub mod StartLemmas
pub mod ReplayLemmas
