pub mod ListLemmas
pub mod MissionLemmas
pub mod PointLemmas
