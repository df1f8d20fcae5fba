pub mod AnswerLemmas
pub mod FewLemmas
pub mod SearchLemmas
pub mod TurnLemmas
pub mod OutsetLemmas
