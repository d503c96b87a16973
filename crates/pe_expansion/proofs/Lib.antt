pub mod Found
pub mod Nesting
pub mod Judging
pub mod Runs
pub mod Works
pub mod OpenNames
pub mod Waiting
pub mod Sections
pub mod Spending
pub mod KeptTexts
pub mod Numbering
pub mod Steady
mod Examples
