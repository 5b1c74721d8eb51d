pub mod WholeLaws
pub mod StopLaws
pub mod RefusalLaws
pub mod FaultLaws
