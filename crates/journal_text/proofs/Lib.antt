pub mod StandLemmas
pub mod PhaseLemmas
