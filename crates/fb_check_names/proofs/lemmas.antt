pub mod comparisons
pub mod numbers
pub mod twice
pub mod unknown
pub mod Listing
pub mod Each
