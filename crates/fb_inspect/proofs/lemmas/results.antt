pub mod Refusing
pub mod Joined
pub mod Refused
pub mod Errors
