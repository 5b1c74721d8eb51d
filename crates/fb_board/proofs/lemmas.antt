pub mod Counts
pub mod OneState
pub mod StepsKeepRule
pub mod StepsReveal
pub mod LastState
