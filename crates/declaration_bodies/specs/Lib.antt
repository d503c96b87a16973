pub mod Elements
pub mod Identifiers
pub mod Entities
pub mod Notations
pub mod Grammar
pub mod Laws
