pub mod determined
pub mod events
pub mod examples
pub mod lists
pub mod names
