pub mod PrintedTables
pub mod FromGraph
pub mod PrintLaws
pub mod ListGraph
pub mod PrintLength
pub mod Limits
