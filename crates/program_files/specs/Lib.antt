pub mod Program
pub mod Cases
pub mod Inputs
