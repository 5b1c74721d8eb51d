pub mod SomeNumber
pub mod HeldRules
pub mod RuleNames
pub mod Declaring
pub mod SuitedTypes
