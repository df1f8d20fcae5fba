pub mod ByteLemmas
pub mod CutLemmas
pub mod LoopLemmas
pub mod ReadLemmas
