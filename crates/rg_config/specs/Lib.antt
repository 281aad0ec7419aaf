pub mod Documents
pub mod Plans
pub mod Reading
pub mod Read
