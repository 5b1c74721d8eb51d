pub mod EventIndexes
pub mod Emissions
pub mod Inputs
pub mod Performing
pub mod Arms
