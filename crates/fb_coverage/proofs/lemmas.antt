pub mod Listed
pub mod Counting
pub mod Added
pub mod Basics
pub mod Connections
