pub mod DecidedSame
pub mod ConnectionKeys
pub mod SameNames
