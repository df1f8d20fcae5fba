pub mod NeedLemmas
pub mod RuleLemmas
