pub mod Costs
pub mod Beside
pub mod Families
pub mod Forests
pub mod Graphs
pub mod Leasts
pub mod Numbered
pub mod Laws
