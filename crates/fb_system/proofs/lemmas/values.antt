pub mod DeclaredInstances
pub mod InitialInputs
pub mod ParameterIndexes
pub mod InitialValues
