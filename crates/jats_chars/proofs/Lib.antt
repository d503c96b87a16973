pub mod Ends
pub mod Pieces
pub mod Plain
pub mod Rows
pub mod Suffixes
