pub mod Lasts
pub mod Heads
pub mod Chunks
pub mod Judging
pub mod Laws
