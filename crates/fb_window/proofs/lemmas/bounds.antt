pub mod Bounding
pub mod BoundsAre
pub mod NextTicks
pub mod LongerSchedules
pub mod KeptHorizons
