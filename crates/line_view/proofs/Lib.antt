pub mod CurrentLemmas
pub mod LineLemmas
