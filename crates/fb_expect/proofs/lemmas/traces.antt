pub mod Indexes
pub mod Alikeness
pub mod Differing
pub mod Gathering
pub mod Numbering
pub mod Excluding
