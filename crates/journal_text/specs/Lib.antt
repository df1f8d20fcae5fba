pub mod Reasons
pub mod Stands
