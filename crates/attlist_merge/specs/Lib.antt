pub mod Lists
pub mod Adding
pub mod Values
pub mod Oddness
pub mod Shown
pub mod Grammar
pub mod Reading
pub mod Laws
