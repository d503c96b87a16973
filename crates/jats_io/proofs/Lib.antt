pub mod Entries
pub mod Failures
pub mod Pieces
pub mod Puts
