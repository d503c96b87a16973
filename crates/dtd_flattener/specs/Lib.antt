pub mod Flat
pub mod Sizes
pub mod Laws
