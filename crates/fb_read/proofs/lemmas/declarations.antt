pub mod NetworkSound
pub mod NetworkComplete
pub mod PortsSound
pub mod PortsComplete
pub mod ChartsSound
pub mod ChartsComplete
pub mod BlocksSound
pub mod BlocksComplete
