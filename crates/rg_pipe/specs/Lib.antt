pub mod Sent
pub mod Hand
pub mod Judging
pub mod State
pub mod Handing
pub mod Assembling
pub mod Streams
