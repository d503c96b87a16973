pub mod Places
pub mod Runs
pub mod Pairs
pub mod Bodies
pub mod Targets
pub mod Complete
pub mod Sound
pub mod Agreement
pub mod Walking
pub mod Listing
pub mod Holding
pub mod Numerals
pub mod ReferenceNames
mod Examples
