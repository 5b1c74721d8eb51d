pub mod Common
pub mod documents
pub mod pairs
pub mod patterns
pub mod rules
pub mod texts
pub mod traces
