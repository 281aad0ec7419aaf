pub mod Bytes
pub mod Calls
pub mod FrameList
pub mod Frames
pub mod LogState
pub mod Looks
pub mod Steps
