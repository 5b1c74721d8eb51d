pub mod Delivers
pub mod Receives
pub mod Posted
pub mod JobsCross
pub mod LinkLemmas
