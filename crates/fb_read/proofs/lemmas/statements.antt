pub mod StatementNesting
pub mod StatementLengths
pub mod StatementSound
pub mod StatementComplete
pub mod TextsInRules
