pub mod LogPrintedLemmas
pub mod LogSpellingLemmas
