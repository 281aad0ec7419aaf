pub mod Chunks
pub mod Extended
pub mod Faults
pub mod Heads
pub mod Written
