pub mod Coming
pub mod Counted
pub mod Handed
pub mod RefusedMemory
pub mod Unheard
pub mod Zips
