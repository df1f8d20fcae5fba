pub mod Told
pub mod Manned
pub mod Moves
pub mod Watches
pub mod Parts
pub mod Runs
