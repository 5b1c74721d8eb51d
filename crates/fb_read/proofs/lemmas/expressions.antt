pub mod RightOperands
pub mod NestingLaws
pub mod LimitedExpressions
pub mod ExpressionSound
pub mod ExpressionComplete
pub mod NestingLimits
