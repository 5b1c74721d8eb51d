pub mod Cutting
pub mod Texts
pub mod MergedText
pub mod Putting
pub mod Sorting
pub mod HandedOut
pub mod TextsAre
pub mod TextedSends
