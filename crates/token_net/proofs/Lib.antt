pub mod NumberLemmas
pub mod ItemLemmas
pub mod GrowthLemmas
pub mod ExtensionLemmas
