pub mod FrameAnswer
pub mod FrameLaws
pub mod FrameSlice
