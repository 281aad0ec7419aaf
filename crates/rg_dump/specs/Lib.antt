pub mod Rows
pub mod Stages
pub mod Behind
pub mod Dump
pub mod Faults
pub mod Leaves
pub mod Surveyed
pub mod Dumped
