pub mod StateLemmas
pub mod RunLemmas
pub mod CheckedLemmas
