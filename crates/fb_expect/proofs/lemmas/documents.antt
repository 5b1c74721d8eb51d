pub mod Suiting
pub mod EachMayFail
pub mod AppliedTexts
pub mod FirstNames
pub mod DocumentValues
pub mod Outcomes
pub mod Locating
pub mod Shapes
