pub mod FoundLines
pub mod Gather
