pub mod Common
pub mod rounds
pub mod runs
pub mod text
