pub mod Dot
pub mod Charts
pub mod Networks
pub mod Resources
pub mod Drawings
