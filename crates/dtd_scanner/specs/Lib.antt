pub mod Items
pub mod Scanning
pub mod Parts
pub mod ItemLists
pub mod Walk
pub mod References
