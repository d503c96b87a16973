pub mod Fronts
pub mod Grammar
