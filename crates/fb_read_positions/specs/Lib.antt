pub mod Lists
pub mod Walks
pub mod Spans
pub mod Resumed
pub mod FindingPositions
pub mod Places
