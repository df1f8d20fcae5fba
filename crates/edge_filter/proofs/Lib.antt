pub mod CandidateLemmas
pub mod MarkLemmas
pub mod ReformLemmas
