pub mod FrameAt
pub mod FrameChecks
pub mod FromTables
