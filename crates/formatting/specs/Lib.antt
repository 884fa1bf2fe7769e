pub mod Printing
pub mod Pages
pub mod Whole
pub mod Digits
