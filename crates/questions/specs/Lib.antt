pub mod Mission
pub mod TableAnswers
pub mod PathNodes
pub mod Words
pub mod PathAnswers
pub mod StatementAnswers
pub mod FrameBuilt
pub mod MissionProof
