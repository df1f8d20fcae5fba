pub mod TournamentLemmas
pub mod NeighbourLemmas
pub mod JoinedLemmas
pub mod NarrowLemmas
pub mod SettingLemmas
pub mod WindowsLemmas
pub mod FreshLemmas
