pub mod Candidates
pub mod Marks
pub mod Sides
pub mod Weights
pub mod Reform
