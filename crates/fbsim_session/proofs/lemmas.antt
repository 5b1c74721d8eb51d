pub mod Commanding
pub mod Pieces
pub mod Telling
