pub mod Arms
pub mod Telling
pub mod Single
