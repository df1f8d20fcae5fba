pub mod Answered
pub mod Descends
pub mod Searched
pub mod Told
pub mod Visits
pub mod First
