pub mod Collapsed
pub mod Cuts
mod Examples
pub mod Inside
pub mod Joined
pub mod Kept
pub mod ReadLines
pub mod Separated
pub mod Spelled
pub mod Yielded
