pub mod PutPieces
pub mod Lookups
pub mod Values
pub mod LineParts
pub mod WriterEnds
pub mod Texts
pub mod MarkedRuns
pub mod LineStarts
