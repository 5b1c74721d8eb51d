pub mod copies
pub mod numbers
pub mod operations
pub mod runs
