pub mod Lasts
pub mod Summing
pub mod InfoLaws
pub mod Worked
