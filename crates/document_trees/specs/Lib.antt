pub mod Trees
pub mod Laws
pub mod Seen
pub mod Falls
pub mod Coding
pub mod Walks
