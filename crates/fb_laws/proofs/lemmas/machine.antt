pub mod BackToSystem
pub mod Bridge
pub mod Opening
