pub mod CheckNumbers
pub mod Zero
