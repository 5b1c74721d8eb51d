pub mod AlikeFaults
pub mod AlikeTakes
pub mod AlikeWalk
pub mod BuildLaws
pub mod FormLaws
pub mod GetterLaws
pub mod LineLaws
