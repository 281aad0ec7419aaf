pub mod Keeping
pub mod Listed
pub mod ListedLaws
pub mod Peek
pub mod Ranges
