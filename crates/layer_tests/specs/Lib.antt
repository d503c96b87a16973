pub mod LiteralPlan
pub mod LiteralPlanned
