pub mod BodyLaws
pub mod ChartLaws
pub mod SimulationLaws
