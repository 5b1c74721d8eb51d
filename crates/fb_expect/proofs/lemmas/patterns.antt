pub mod Starred
pub mod Sighting
pub mod Marked
pub mod Faulty
pub mod Contradicting
