pub mod Lines
pub mod Asking
pub mod Tallies
pub mod Nodes
