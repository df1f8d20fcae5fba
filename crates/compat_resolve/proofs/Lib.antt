pub mod ApplyLemmas
pub mod LineLemmas
pub mod ListedLemmas
