pub mod Tournament
pub mod Joined
pub mod Narrowed
pub mod Windows
