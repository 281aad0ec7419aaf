pub mod Words
pub mod Inputs
pub mod Texts
pub mod Numbers
