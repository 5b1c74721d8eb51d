pub mod Marked
pub mod Happened
pub mod Losses
