pub mod Sorting
pub mod StableSort
pub mod Merged
pub mod EarlyLines
