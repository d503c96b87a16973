pub mod Chars
pub mod Classes
pub mod Decoded
pub mod Hashing
pub mod Names
pub mod TextDeclaration
pub mod formers
