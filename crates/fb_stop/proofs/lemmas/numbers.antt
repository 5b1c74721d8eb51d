pub mod Runs
pub mod Defined
pub mod NumbersAlone
pub mod Missing
pub mod NothingSaid
