pub mod Applying
pub mod LastIndexes
pub mod BlockIndexes
pub mod Catalogs
pub mod NamePartIndexes
pub mod Lookups
