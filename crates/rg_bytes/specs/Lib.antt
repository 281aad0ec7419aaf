pub mod Counts
pub mod Keeps
pub mod Known
pub mod Numbers
pub mod Reading
