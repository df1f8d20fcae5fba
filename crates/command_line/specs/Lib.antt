pub mod Found
pub mod Line
pub mod Unasked
pub mod Words
