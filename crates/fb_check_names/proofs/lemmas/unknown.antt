pub mod InNetworks
pub mod NetworkUnknown
pub mod Resolving
