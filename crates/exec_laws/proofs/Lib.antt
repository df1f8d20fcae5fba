pub mod SameLemmas
pub mod FollowLemmas
pub mod StepLemmas
pub mod HorizonLemmas
pub mod EarliestLemmas
pub mod ReplyLemmas
pub mod RunningLemmas
pub mod EndingLemmas
