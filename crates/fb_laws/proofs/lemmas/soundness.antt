pub mod Outs
pub mod Accepting
