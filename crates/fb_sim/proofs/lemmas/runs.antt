pub mod CrewCrossing
pub mod Crossing
pub mod Ending
pub mod OneAgendaIs
pub mod LaterTicks
pub mod Refused
pub mod SimulationFields
pub mod ViewIs
