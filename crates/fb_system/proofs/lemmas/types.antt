pub mod Differing
pub mod WithIndexesLaws
pub mod EventBlocks
pub mod Rising
pub mod WithLists
pub mod BlockNames
pub mod Naming
