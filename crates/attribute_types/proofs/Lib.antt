pub mod TextTests
pub mod Words
pub mod Collapsing
pub mod Cuts
pub mod Free
pub mod Cells
pub mod Uncovering
pub mod OfChars
mod Examples
