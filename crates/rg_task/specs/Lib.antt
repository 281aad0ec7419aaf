pub mod Terms
pub mod State
pub mod Stepping
pub mod View
