pub mod LineFaults
pub mod Messages
