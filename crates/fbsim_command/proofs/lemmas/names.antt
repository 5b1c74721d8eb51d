pub mod GrammarNames
pub mod NameTokens
pub mod SystemNames
pub mod ReadNames
pub mod Nearest
pub mod KnownNames
