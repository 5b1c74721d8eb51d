pub mod Values
pub mod Statements
pub mod Entries
pub mod Laws
pub mod Results
pub mod Views
