pub mod Completions
pub mod Counts
pub mod Machines
pub mod Openings
pub mod Pauses
pub mod Runs
