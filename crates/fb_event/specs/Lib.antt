pub mod State
pub mod Seen
pub mod Reactions
pub mod Block
pub mod Step
pub mod Emissions
