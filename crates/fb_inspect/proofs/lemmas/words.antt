pub mod ThreeWords
pub mod LastMark
pub mod PortWords
pub mod BoundValues
pub mod NamesApart
pub mod Texts
