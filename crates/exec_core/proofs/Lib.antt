pub mod RoomLemmas
pub mod KeptLemmas
pub mod NextLemmas
pub mod LawfulLemmas
pub mod PushLemmas
pub mod HandedLemmas
pub mod TurnLemmas
pub mod LineLemmas
