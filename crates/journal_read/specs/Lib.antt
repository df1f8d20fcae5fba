pub mod LogReading
pub mod LogSpelling
pub mod NotedLogs
pub mod Stops
