pub mod Common
pub mod blocks
pub mod emitting
pub mod opening
pub mod taking
pub mod values
