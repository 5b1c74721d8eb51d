pub mod Agendas
pub mod Arrivals
pub mod Inside
pub mod Laters
pub mod Lists
pub mod Moments
pub mod LeastEvents
pub mod Timing
