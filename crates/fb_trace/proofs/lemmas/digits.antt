pub mod Digits
pub mod CopiedRows
pub mod CopiedBytes
pub mod Signs
pub mod Tens
pub mod RowDigits
