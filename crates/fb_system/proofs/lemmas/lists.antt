pub mod TwoLists
pub mod ListParts
pub mod Named
