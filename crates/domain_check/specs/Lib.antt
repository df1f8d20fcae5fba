pub mod Checking
pub mod Rules
pub mod Numbering
pub mod Tables
