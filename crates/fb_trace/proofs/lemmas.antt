pub mod digits
pub mod lines
pub mod order
