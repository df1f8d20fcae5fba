pub mod Good
pub mod Lawful
