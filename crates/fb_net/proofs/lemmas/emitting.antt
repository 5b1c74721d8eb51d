pub mod Emitting
pub mod Publishing
pub mod OutboxKept
pub mod PortRows
