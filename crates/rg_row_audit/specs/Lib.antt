pub mod Rows
pub mod Gathering
pub mod Keeping
