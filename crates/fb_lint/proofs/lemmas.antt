pub mod Common
pub mod WarningLists
pub mod Edges
pub mod ReachedStates
pub mod Tests
pub mod WarningsHold
pub mod WarningsListed
