pub mod Passes
pub mod Shares
pub mod Rule
pub mod PassFields
pub mod Works
