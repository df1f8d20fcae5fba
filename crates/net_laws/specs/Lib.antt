pub mod Camera
pub mod Dominance
pub mod Dispatching
