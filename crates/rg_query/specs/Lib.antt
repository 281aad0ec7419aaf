pub mod Resolving
pub mod Building
pub mod Printing
pub mod Saying
pub mod Legal
pub mod Written
pub mod Spacing
