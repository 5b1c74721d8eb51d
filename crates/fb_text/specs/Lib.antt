pub mod Pieces
pub mod Expressions
pub mod Conditions
