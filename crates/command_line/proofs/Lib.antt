pub mod AskedLemmas
pub mod GivenLemmas
pub mod LineLemmas
pub mod NumberLemmas
pub mod ParseLemmas
pub mod ReadLemmas
pub mod SortLemmas
pub mod StepLemmas
