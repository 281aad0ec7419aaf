pub mod Chain
pub mod Halting
pub mod Moving
pub mod Passing
pub mod Placed
