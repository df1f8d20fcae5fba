pub mod LogReadLemmas
pub mod LogSizeLemmas
pub mod EntryLemmas
pub mod NotedLemmas
pub mod LogMeaningLemmas
pub mod StopLemmas
