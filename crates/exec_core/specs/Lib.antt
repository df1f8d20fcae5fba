pub mod Recorded
pub mod Replies
pub mod Next
pub mod Room
pub mod Kept
pub mod Events
pub mod Own
