pub mod Spelled
pub mod Cutting
pub mod Answers
pub mod Loops
