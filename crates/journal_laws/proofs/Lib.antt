pub mod DeedLemmas
pub mod HistoryLemmas
pub mod PrefixLemmas
pub mod RunLemmas
pub mod TextLemmas
pub mod WordLemmas
