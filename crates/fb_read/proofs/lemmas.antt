pub mod Common
pub mod declarations
pub mod expressions
pub mod lookahead
pub mod rules
pub mod statements
pub mod texts
pub mod tokens
