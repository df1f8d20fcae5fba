pub mod Broken
pub mod Causes
pub mod Chains
pub mod Distances
pub mod Folding
pub mod Ranges
pub mod Rows
