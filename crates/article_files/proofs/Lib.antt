pub mod Loaded
pub mod Handing
