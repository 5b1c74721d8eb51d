pub mod AnsweredLines
pub mod Coupled
pub mod PairsSettled
