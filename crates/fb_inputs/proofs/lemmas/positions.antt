pub mod Counting
pub mod FieldSpans
pub mod Found
pub mod StepsAround
pub mod NearestSpans
