pub mod Words
pub mod Trials
