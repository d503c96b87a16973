pub mod Fronts
pub mod Ends
pub mod Sound
pub mod Complete
