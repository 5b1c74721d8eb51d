pub mod Emitting
pub mod RowTypes
pub mod KeyLaws
pub mod ReactionLaws
pub mod AllKinds
pub mod KindRows
pub mod EventCounts
pub mod EventNames
