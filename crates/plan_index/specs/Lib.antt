pub mod Contents
pub mod Lines
pub mod Named
pub mod Entered
