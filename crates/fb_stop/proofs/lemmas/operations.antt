pub mod Operating
pub mod OperationPlaces
pub mod FirstWithoutValue
pub mod Insides
pub mod OutermostOperations
pub mod OperationTokens
