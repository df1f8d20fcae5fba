pub mod Parsers
pub mod Reads
pub mod MissionReading
pub mod Samples
pub mod Writable
pub mod Writes
pub mod WritablePlans
pub mod Refused
