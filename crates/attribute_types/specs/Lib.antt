pub mod Spacing
pub mod Classes
pub mod Types
pub mod Proper
pub mod Covers
pub mod Table
pub mod Chars
