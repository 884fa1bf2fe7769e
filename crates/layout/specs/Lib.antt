pub mod Layout
pub mod Zeroed
pub mod Refusals
pub mod Fronts
