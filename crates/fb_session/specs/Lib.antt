pub mod Pasts
pub mod Hitting
pub mod Breaking
pub mod Giving
pub mod Running
pub mod Going
pub mod Shown
