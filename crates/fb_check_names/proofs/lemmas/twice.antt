pub mod Repeating
pub mod TwiceIn
pub mod NameTwice
pub mod Once
pub mod FirstRepeats
pub mod AllTwice
