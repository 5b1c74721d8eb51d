pub mod BodyTotal
pub mod ChartTotal
pub mod Existence
pub mod TakeTotal
pub mod FamilyRuns
pub mod CompleteSchedules
