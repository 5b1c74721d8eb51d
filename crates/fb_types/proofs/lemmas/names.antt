pub mod NameLaws
pub mod NameNumbers
pub mod NameOrders
pub mod PathLaws
