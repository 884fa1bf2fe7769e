pub mod FromNodes
pub mod FromListed
