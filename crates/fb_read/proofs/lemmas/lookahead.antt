pub mod OneTokenAhead
pub mod LocalSteps
pub mod LocalLoops
pub mod LocalRules
pub mod LocalExpressions
pub mod LocalStatements
pub mod LocalLibrary
