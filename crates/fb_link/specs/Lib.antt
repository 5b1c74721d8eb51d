pub mod Arrivals
pub mod Exchanges
pub mod Messages
pub mod OfSystem
