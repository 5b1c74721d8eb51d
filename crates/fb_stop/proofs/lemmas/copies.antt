pub mod Failing
pub mod Stopping
pub mod Following
pub mod Copying
pub mod Locating
pub mod CopiedSlots
