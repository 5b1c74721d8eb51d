pub mod Dealt
pub mod EarliestIs
pub mod Exchanged
pub mod Keyed
pub mod LatencyTables
pub mod Lists
