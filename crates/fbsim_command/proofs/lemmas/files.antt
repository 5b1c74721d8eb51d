pub mod FirstBytes
pub mod Gathering
pub mod Counting
pub mod OpenLaws
pub mod LinesLaws
pub mod FileNames
pub mod PlacedLines
