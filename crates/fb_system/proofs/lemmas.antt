pub mod Common
pub mod inputs
pub mod lists
pub mod networks
pub mod rows
pub mod types
pub mod values
