pub mod PlanReading
pub mod Answers
pub mod SoFar
pub mod Loops
pub mod Naming
