pub mod Causes
pub mod Told
pub mod Streams
pub mod Calls
pub mod Forms
