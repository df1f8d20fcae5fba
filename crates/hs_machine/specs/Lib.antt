pub mod Types
pub mod Histories
pub mod State
pub mod Views
pub mod Machine
pub mod Run
pub mod Eager
pub mod Reports
