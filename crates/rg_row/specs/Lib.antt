pub mod Fields
pub mod Rows
pub mod Modes
pub mod Texts
pub mod Records
pub mod Plain
