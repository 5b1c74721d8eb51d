pub mod NotedLines
pub mod Noting
pub mod Located
