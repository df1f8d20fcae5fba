pub mod Follows
pub mod Endings
pub mod Running
pub mod Allowing
