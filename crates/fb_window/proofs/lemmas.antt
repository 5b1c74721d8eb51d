pub mod Common
pub mod bounds
pub mod lines
pub mod messages
pub mod phases
pub mod turns
