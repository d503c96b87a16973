pub mod Listed
pub mod Alone
mod Examples
mod Walking
pub mod Seen
