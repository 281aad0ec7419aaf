pub mod Columns
pub mod Numbers
pub mod Values
pub mod Widths
