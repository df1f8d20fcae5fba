pub mod CauseLemmas
pub mod DistLemmas
pub mod FoldedLemmas
pub mod FoldingLemmas
pub mod PathLemmas
pub mod RangeLemmas
pub mod RowLemmas
pub mod TraceLemmas
