pub mod Included
pub mod Laws
pub mod Listed
pub mod Reaching
pub mod Rows
