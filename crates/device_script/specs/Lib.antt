pub mod Runs
pub mod Passed
pub mod Sayings
pub mod Telling
