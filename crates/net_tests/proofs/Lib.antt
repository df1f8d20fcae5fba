pub mod WindowLemmas
pub mod DispatchLemmas
