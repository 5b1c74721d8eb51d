pub mod Takings
pub mod Stepping
pub mod Ending
pub mod Spending
