pub mod Inner
pub mod Heads
pub mod StateDumps
pub mod Saved
pub mod Dumping
pub mod Waving
pub mod StateLaws
