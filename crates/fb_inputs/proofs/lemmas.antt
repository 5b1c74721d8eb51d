pub mod Common
pub mod deployments
pub mod positions
pub mod stimuli
pub mod Each
