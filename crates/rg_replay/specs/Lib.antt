pub mod Faults
pub mod Going
pub mod Playing
pub mod Replay
pub mod Runs
