pub mod Commands
pub mod Talks
