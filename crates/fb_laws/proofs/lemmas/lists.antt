pub mod Indexes
pub mod Scans
