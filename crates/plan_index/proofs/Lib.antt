pub mod LineLemmas
pub mod GrowthLemmas
pub mod IndexLemmas
pub mod CountLemmas
